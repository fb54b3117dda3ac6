use Rattle.std.proofs.Common.{rules, sym}
use Rattle.std.proofs.lemmas.Nat.{le_bytes_8}
unfoldable use Rattle.ent_handle.specs.Bytes.{long}
use Rattle.ent_handle.proofs.bytes.long_in.Goals as goal

pub returns : goal.returns
unfolding long
returns c = sym (le_bytes_8 c.args.bytes _ (search rules) (search rules) c.from_le_bytes.ensures)
