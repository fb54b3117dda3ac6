use Rattle.ent_storage.proofs.Common.{◌≡◌, ◌+◌, ◌<◌, ◌≤◌, ◌^◌, ◌++◌, length, vec_len, vec_capacity}
use Rattle.ent_storage.proofs.Common.{into_iter_items, into_iter_len, entries_from}
use Rattle.ent_storage.proofs.handle_map.emptying.move_values.Given as goal

abbrev pub invariant-loop-slot : goal.invariant-loop-slot
invariant-loop-slot g l = record {
  moved : l.out.items ++ entries_from l.index (into_iter_items l.rest) ≡ l.fn.out.items
      ++ entries_from 0 l.fn.slots.items;
  few : l.index + length (into_iter_items l.rest) < 2 ^ 32;
  room : vec_len l.out + length (entries_from l.index (into_iter_items l.rest))
      ≤ vec_capacity l.out;
}

abbrev pub decreases-loop-slot : goal.decreases-loop-slot
decreases-loop-slot g l = into_iter_len l.rest
