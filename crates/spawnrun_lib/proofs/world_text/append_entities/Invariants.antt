use Rattle.spawnrun_lib.proofs.Common.{◌≡◌, ◌≤◌, ◌++◌, map, string_bytes, take, drop, vec_len}
use Rattle.spawnrun_lib.proofs.Common.{vec_capacity, flat_map, line_in}
use Rattle.spawnrun_lib.specs.Heads.{IsHead}
use Rattle.spawnrun_lib.proofs.world_text.append_entities.Given as goal

abbrev pub invariant-loop-handle : goal.invariant-loop-handle
invariant-loop-handle l = record {
  told : l.out.items ++ flat_map (line_in (map string_bytes l.names) l.show l.world.entities)
      (drop l.handle-index l.handles) ≡ l.fn.out.items ++ flat_map
      (line_in (map string_bytes l.names) l.show l.world.entities) l.handles;
  kept : take (vec_len l.fn.out) l.out.items ≡ l.fn.out.items;
  capacity : vec_capacity l.fn.out ≤ vec_capacity l.out;
  head : IsHead l.head;
}
