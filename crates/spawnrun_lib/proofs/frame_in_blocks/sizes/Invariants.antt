use Rattle.spawnrun_lib.proofs.Common.{◌≡◌, ◌≤◌, ◌+◌, length, take, drop, vec_len, vec_capacity}
use Rattle.spawnrun_lib.proofs.Common.{sizes_of}
use Rattle.spawnrun_lib.proofs.frame_in_blocks.sizes.Given as goal

abbrev pub invariant-loop-system : goal.invariant-loop-system
invariant-loop-system l = record {
  sizes : l.sizes.items ≡ sizes_of l.size (take l._system-index l.systems);
  room : vec_len l.sizes + length (drop l._system-index l.systems) ≤ vec_capacity l.sizes;
}
