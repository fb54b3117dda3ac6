use Rattle.ent_shared.proofs.Common.{rules}
use Rattle.ent_shared.proofs.source.SharedPhased.end_with_some.Goals as goal

pub returns : goal.returns
returns c =
    let e = c.close_lost.ensures in
    search (rules, e, e.given, e.brings_to_life)
