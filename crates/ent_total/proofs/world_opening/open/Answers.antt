use Rattle.ent_total.proofs.Common.{rules}
use Rattle.ent_total.proofs.Unused.{nothing-reserved, same_world, unused_reservers}
use Rattle.ent_total.proofs.world_opening.open.Goals as goal

pub returns-in-Err-begin-clause-handed_back : goal.returns-in-Err-begin-clause-handed_back
returns-in-Err-begin-clause-handed_back g c =
    let e = c.end_with_all-world.ensures in
    let unused = unused_reservers _ c.in-Ok-opened.ensures.unused in
    search (
      rules,
      same_world,
      nothing-reserved,
      unused,
      e.world.same.phase,
      e.world.same.entities,
      e.world.ended.after_is,
    )
