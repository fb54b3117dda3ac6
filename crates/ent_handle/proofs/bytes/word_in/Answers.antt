use Rattle.std.proofs.Common.{rules, sym}
use Rattle.std.proofs.lemmas.Nat.{le_bytes_4}
unfoldable use Rattle.ent_handle.specs.Bytes.{word}
use Rattle.ent_handle.proofs.bytes.word_in.Goals as goal

pub returns : goal.returns
unfolding word
returns c = sym (le_bytes_4 c.args.bytes _ (search rules) (search rules) c.from_le_bytes.ensures)
