use Rattle.ent_total.proofs.Common.{rules, append-nil, reverse-reverse}
use Rattle.ent_total.proofs.world_opening.equip.Goals as goal

pub returns-clause-callers : goal.returns-clause-callers
returns-clause-callers c =
    search (rules, append-nil, reverse-reverse, c.loop-reserver.invariant.all, c.reverse.ensures.items)
