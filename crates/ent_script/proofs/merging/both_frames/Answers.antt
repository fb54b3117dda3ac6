use Rattle.ent_script.proofs.Common.{both, with_operations, rules, arith}
use Rattle.ent_script.proofs.Shares.{put_on, taken}
use Rattle.ent_script.proofs.merging.both_frames.Goals as goal

pub loop-frame-preserved : goal.loop-frame-preserved
loop-frame-preserved c =
    let i = c.loop-frame.invariant in
    let p = c.push_reserved.ensures in
    let next = c.next-in-loop-frame.ensures in
    let left = taken c.next-in-loop-frame.result _ _ _ _ next.items i.len next.len next.variant in
    let on = put_on (both with_operations) _ _ c.in-Some.frame c.next-in-loop-frame.result _ _ _
    next.items
    left.1 (rw c.in-Some.ensures.steps.0 at i.put) in
    record { put = search (rules, on); len = left.0; room = search (rules, arith) }
