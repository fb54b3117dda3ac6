use Rattle.ent_storage.proofs.Common.{◌≡◌, vec_capacity, AreCounted, vec_len}
use Rattle.ent_storage.proofs.Kept.{RetainedBelow}
use Rattle.ent_storage.proofs.handle_map.retaining.retain_slots.Given as goal

abbrev pub invariant-loop-index : goal.invariant-loop-index
invariant-loop-index g l = record {
  callable : goal.F-IsAlwaysCallable g l.keep;
  len : vec_len l.slots ≡ vec_len l.fn.slots;
  capacity : vec_capacity l.slots ≡ vec_capacity l.fn.slots;
  counted : AreCounted 0 l.slots.items l.len;
  below : RetainedBelow (goal.F-step g) l.fn.keep l.fn.slots.items l.keep l.slots.items l.index;
}
