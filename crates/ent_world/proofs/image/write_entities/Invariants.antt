use Rattle.ent_world.proofs.Common.{◌≡◌, ◌+◌, ◌*◌, ◌≤◌, ◌<◌, ◌++◌, IfSome, IsSomeAnd, All, length}
use Rattle.ent_world.proofs.Common.{true, is_some, vec_len, vec_capacity, flat_map, w64, FitsSigned}
use Rattle.ent_world.proofs.Common.{ComponentId, birth_of, value_of, entity_bytes, IsBirth}
use Rattle.std.specs.FinMap as map
use Rattle.ent_world.proofs.image.write_entities.Given as goal

-- what is left to write gives the whole
abbrev pub invariant-loop-handle : goal.invariant-loop-handle
invariant-loop-handle l = record {
  placed : All (λ h. is_some (map.get l.entities.rows h) ≡ true) l.handle-iterator;
  room : vec_len l.out + l.extra + length l.handle-iterator * (16 + 9 * l.width)
      ≤ vec_capacity l.out;
  items : l.out.items ++ flat_map (entity_bytes l.width l.storage.entities) l.handle-iterator
      ≡ l.fn.out.items ++ flat_map (entity_bytes l.width l.storage.entities) l.fn.handles;
  births : All (λ h. IsSomeAnd (birth_of l.storage.entities h) IsBirth) l.handle-iterator
      → All (λ h. IsSomeAnd (birth_of l.storage.entities h) IsBirth) l.fn.handles;
  values :
      All (λ h. (id : ComponentId) → id.0 < l.width
      → IfSome (value_of l.storage.entities h id) (FitsSigned w64))
      l.handle-iterator → All (λ h. (id : ComponentId) → id.0 < l.width
      → IfSome (value_of l.storage.entities h id) (FitsSigned w64)) l.fn.handles;
}
