use Rattle.ent_blocks.proofs.Common.{arith, quota, ap}
use Rattle.ent_blocks.specs.Overflow.{Caller}
use Rattle.ent_shared.specs.Record.{requested_by}
use Rattle.ent_blocks.proofs.overflow.reserver.OverflowReserver.requested_past.Goals as goal

pub overflow_sub-result : goal.overflow_sub-result
unfolding quota
overflow_sub-result c = omega (arith, c.left.ensures.quota)

pub returns-clause-value : goal.returns-clause-value
unfolding quota
returns-clause-value c =
    let same = ap (λ (caller : Caller). requested_by caller.past.own) c.self.view_is in
    omega (arith, c.left.ensures.quota, same)
