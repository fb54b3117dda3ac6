use Rattle.ent_shared.proofs.Common.{rules}
use Rattle.ent_shared.proofs.source.SharedPhased.end_with_all.Goals as goal

pub returns : goal.returns
returns c =
    let e = c.close.ensures in
    search (rules, e, e.brings_to_life)
