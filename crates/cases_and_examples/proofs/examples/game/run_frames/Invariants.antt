use Rattle.std.proofs.Common.{◌≡◌}
use Rattle.cases_and_examples.proofs.examples.game.run_frames.Given as goal

-- each frame ends with a flush
abbrev pub invariant-loop-frame : goal.invariant-loop-frame
invariant-loop-frame _ l = l.world.allocator.asked ≡ 0
