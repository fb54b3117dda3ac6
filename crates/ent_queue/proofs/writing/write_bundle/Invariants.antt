use Rattle.ent_queue.proofs.Common.{◌≡◌, ◌+◌, ◌*◌, ◌≤◌, ◌++◌, take, vec_len, vec_capacity, flat_map}
use Rattle.ent_queue.proofs.Common.{item_bytes}
use Rattle.ent_queue.proofs.writing.write_bundle.Given as goal

abbrev pub invariant-loop-item : goal.invariant-loop-item
invariant-loop-item l = record {
  items : l.bytes.items ≡ l.initial.bytes.items ++ flat_map item_bytes (take l.item-index l.items);
  len : vec_len l.bytes ≡ vec_len l.initial.bytes + 9 * l.item-index;
  capacity : vec_capacity l.initial.bytes ≤ vec_capacity l.bytes;
}
