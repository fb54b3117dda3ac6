use Rattle.ent_storage.proofs.Common.{◌≤◌, length, arith, total}
use Rattle.ent_storage.proofs.Rising.{gap_from_neighbours}
use Rattle.ent_storage.proofs.slot.is_gap.Goals as goal

-- the handle is between its neighbours
pub returns-then-is_after : goal.returns-then-is_after
returns-then-is_after c is =
    let inside : c.args.position ≤ length c.args.pairs.now = omega arith in
    gap_from_neighbours total _ _ _ c.requires inside (c.is_after.ensures c.if-is_after.true)
    (c.is_before.ensures is)
