use Rattle.ent_runner.proofs.Common.{arith}
use Rattle.ent_runner.proofs.Outputs.{collected_on, next_there}
use Rattle.ent_runner.proofs.crew.collecting.collect.Goals as goal

pub unwrap-output-requires : goal.unwrap-output-requires
unwrap-output-requires g c =
    next_there _ _ _ _ _ c.loop-made.invariant.same.all c.in-Some.ensures.steps.0 c.requires.all

pub loop-made-preserved : goal.loop-made-preserved
loop-made-preserved g c =
    let i = c.loop-made.invariant in
    let p = c.push_reserved.ensures in
    let next =
    collected_on _ _ _ _ _ _ (rw c.unwrap-output.ensures at c.in-Some.ensures.steps.0) p.items
    i.same in
    record { same = next.0; room = omega (arith, next.1, p.len, p.capacity, i.room) }
