use Rattle.ent_blocks.proofs.Common.{rules}
use Rattle.ent_blocks.proofs.overflow.source.OverflowPhased.end_with_some.Goals as goal

pub returns : goal.returns
returns c =
    let e = c.close_lost.ensures in
    search (rules, e, e.given, e.requested)
