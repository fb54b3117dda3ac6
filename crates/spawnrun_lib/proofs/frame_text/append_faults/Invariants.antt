use Rattle.spawnrun_lib.proofs.Common.{◌≡◌, ◌≤◌, ◌++◌, take, drop, vec_len, vec_capacity, flat_map}
use Rattle.spawnrun_lib.proofs.Common.{fault_line}
use Rattle.spawnrun_lib.proofs.frame_text.append_faults.Given as goal

abbrev pub invariant-loop-fault : goal.invariant-loop-fault
invariant-loop-fault l = record {
  told : l.out.items ++ flat_map (fault_line l.show) (drop l.fault-index l.faults) ≡ l.fn.out.items
      ++ flat_map (fault_line l.fn.show) l.faults;
  kept : take (vec_len l.fn.out) l.out.items ≡ l.fn.out.items;
  capacity : vec_capacity l.fn.out ≤ vec_capacity l.out;
}
