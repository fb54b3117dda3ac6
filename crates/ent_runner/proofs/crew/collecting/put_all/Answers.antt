use Rattle.ent_runner.proofs.Outputs.{put_on}
use Rattle.ent_runner.proofs.crew.collecting.put_all.Goals as goal

pub loop-one-preserved : goal.loop-one-preserved
loop-one-preserved g c =
    let i = c.loop-one.invariant in
    let next = put_on _ _ _ _ _ _ c.in-Some.ensures.steps.0 c.put.ensures i.inside i.same in
    record { inside = next.0; same = next.1 }
