use Rattle.ent_storage.proofs.Common.{◌≡◌, ◌++◌, ◌-◌, ◌+◌, ◌≤◌, replicate, vec_len, vec_capacity}
use Rattle.ent_storage.proofs.Common.{Vacant}
use Rattle.ent_storage.proofs.handle_map.slot.add_slots.Given as goal

abbrev pub invariant-loop : goal.invariant-loop
invariant-loop g l = record {
  added : l.slots.items ≡ l.initial.slots.items ++ replicate (l.counter - l.made) Vacant;
  len : vec_len l.slots ≡ vec_len l.initial.slots + (l.counter - l.made);
  capacity : vec_capacity l.slots ≡ vec_capacity l.initial.slots;
  least : l.made ≤ l.counter;
}
