use Rattle.spawnrun_lib.proofs.Common.{◌≡◌, ◌≤◌, ◌+◌, length, take, drop, vec_len, vec_capacity}
use Rattle.spawnrun_lib.proofs.script_system.runnable.Given as goal

abbrev pub invariant-loop-system : goal.invariant-loop-system
invariant-loop-system l = record {
  runnable : l.runnable.items ≡ take l.system-index l.systems;
  room : vec_len l.runnable + length (drop l.system-index l.systems) ≤ vec_capacity l.runnable;
}
