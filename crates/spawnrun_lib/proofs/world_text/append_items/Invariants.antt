use Rattle.spawnrun_lib.proofs.Common.{◌≡◌, ◌≤◌, ◌++◌, map, string_bytes, take, vec_len}
use Rattle.spawnrun_lib.proofs.Common.{vec_capacity, flat_map, item_text}
use Rattle.spawnrun_lib.proofs.world_text.append_items.Given as goal

abbrev pub invariant-loop-item : goal.invariant-loop-item
invariant-loop-item l = record {
  told : l.out.items ++ flat_map (item_text (map string_bytes l.names)) l.item-iterator
      ≡ l.fn.out.items
      ++ flat_map (item_text (map string_bytes l.names)) l.fn.items;
  kept : take (vec_len l.fn.out) l.out.items ≡ l.fn.out.items;
  capacity : vec_capacity l.fn.out ≤ vec_capacity l.out;
}
