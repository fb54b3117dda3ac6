use Rattle.spawnrun_lib.proofs.Common.{rules}
use Rattle.spawnrun_lib.proofs.NextFrame.{goes_on, has_gone_on, one_more, others_are_few}
use Rattle.spawnrun_lib.proofs.script_run.run_frames.Goals as goal

pub loop-current-preserved : goal.loop-current-preserved
loop-current-preserved g c =
    let i = c.loop-current.invariant in
    let gone = c.loop-current.yielded in
    let old = c.loop-current.current-iterator.rest.items in
    let rest = c.next.new.self.rest.items in
    let x = c.in-Some.current in
    let front = c.in-Some.ensures.steps.0 in
    let went = c.in_ok-report.ensures.went in
    let ends = rw c.systems.ensures at went.1 in
    let on =
    has_gone_on c.args.workers c.args.show c.args.world.now c.loop-current.world c.run.new.world
    gone x
    c.loop-current.text.items went.0 _ _ i.run ends in
    record {
      all = goes_on gone old rest x front c.args.frames.items i.all;
      counted = search (rules, one_more gone old rest x front c.loop-current.number i.counted);
      few = others_are_few gone old rest x front i.few;
      flushed = c.in_ok-report.ensures.flushed;
      run = search (rules, i.counted, on);
    }
