use Rattle.ent_blocks.proofs.Common.{rules}
use Rattle.ent_blocks.proofs.overflow.source.OverflowPhased.end_with_all.Goals as goal

pub returns : goal.returns
returns c =
    let e = c.close.ensures in
    search (rules, e, e.handles)
