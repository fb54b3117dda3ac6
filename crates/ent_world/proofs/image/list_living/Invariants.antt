use Rattle.ent_world.proofs.Common.{◌≡◌, ◌+◌, ◌≤◌, ◌++◌, All, length, None, vec_len, vec_capacity}
use Rattle.std.specs.FinMap as map
use Rattle.ent_world.proofs.image.list_living.Given as goal

-- what is left to list gives the whole
abbrev pub invariant-loop-handle : goal.invariant-loop-handle
invariant-loop-handle l = record {
  room : vec_len l.list + length l.handle-iterator ≤ vec_capacity l.list;
  items : l.list.items ++ l.handle-iterator ≡ l.fn.handles;
  bare : All (λ h. map.get l.entities.rows h ≡ None) l.handle-iterator
      → All (λ h. map.get l.entities.rows h ≡ None) l.fn.handles;
  before : All (λ h. map.get l.entities.rows h ≡ None) l.list.items;
}
