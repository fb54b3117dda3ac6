use Rattle.spawnrun_lib.proofs.Common.{append_assoc, length-append, common_steps, rules, arith, ◌≡◌}
use Rattle.spawnrun_lib.proofs.NextFrame.{has_gone_on_in_blocks, others_are_few}
use Rattle.spawnrun_lib.proofs.script_run_in_blocks.run_frames.Goals as goal

pub loop-current-preserved : goal.loop-current-preserved
loop-current-preserved g c =
    let i = c.loop-current.invariant in
    let front = c.in-Some.ensures.steps.0 in
    let went = c.in-Ok.ensures.went in
    let ends = rw c.systems-in-loop-current.ensures at went.1 in
    record {
      all = search (rules, append_assoc, rw front at i.all);
      counted = search (rules, length-append, i.counted);
      few =
          others_are_few c.loop-current.yielded c.loop-current.current-iterator.rest.items
          c.next.new.self.rest.items c.in-Some.current front i.few;
      flushed = c.in-Ok.ensures.flushed;
      run = λ names. search (
        rules,
        i.counted,
        has_gone_on_in_blocks names c.args.size c.args.show c.args.world c.loop-current.world _
            c.loop-current.yielded
            c.in-Some.current c.loop-current.text.items went.0 _ _ (i.run names) ends,
      );
    }

pub returns : goal.returns
returns g c =
    let all : c.loop-current.yielded ≡ c.args.frames.items = grind (arith, common_steps) in
    record { went = λ names. rw all at (c.loop-current.invariant.run names) }
