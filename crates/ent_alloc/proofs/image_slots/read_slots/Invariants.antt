use Rattle.ent_alloc.proofs.Common.{◌≡◌, ◌*◌, ◌≤◌, ◌++◌, length, drop, vec_len, flat_map}
use Rattle.ent_alloc.proofs.Common.{record_bytes, AreRead, vec_capacity}
use Rattle.ent_alloc.proofs.image_slots.read_slots.Given as goal

-- the slots before the index are read, and the bytes of the others are left
abbrev pub invariant-loop-slot : goal.invariant-loop-slot
invariant-loop-slot l = record {
  read : AreRead l.limits l.records.items l.pending.items l.live;
  made : vec_len l.records ≡ l.slot-index;
  waiting : length l.pending.items ≡ l.waiting;
  few : l.live ≤ l.slot-index;
  bytes : l.bytes ≡ flat_map record_bytes l.records.items ++ drop (12 * l.slot-index) l.bytes;
  room : vec_capacity l.records ≡ l.made;
}
