use Rattle.spawnrun_lib.proofs.Common.{◌≡◌, ◌++◌, length, ℕ, List, AreFew, HaveGoneInBlocks}
use Rattle.spawnrun_lib.proofs.script_run_in_blocks.run_frames.Given as goal

abbrev pub invariant-loop-current : goal.invariant-loop-current
invariant-loop-current g l = record {
  all : l.yielded ++ l.current-iterator.rest.items ≡ l.fn.frames.items;
  counted : l.number ≡ length l.yielded;
  few : AreFew l.current-iterator.rest.items;
  flushed : l.world.allocator.asked ≡ 0;
  run : (names : List (List ℕ))
      → HaveGoneInBlocks names l.size l.show l.fn.world l.world l.yielded l.text.items;
}
