use Rattle.ent_storage.proofs.Common.{◌≡◌, ◌≢◌, ◌≤◌, ◌<◌, ◌++◌, ℤ, None, Some, w64, FitsSigned}
use Rattle.ent_storage.proofs.Common.{ComponentId, Handle, birth_of, value_of, values_bytes}
use Rattle.ent_storage.proofs.Common.{fin_get}
use Rattle.ent_storage.proofs.image.read_values.Given as goal

-- the entity has the values so far
abbrev pub invariant-loop-number : goal.invariant-loop-number
invariant-loop-number l = record {
  bytes : l.bytes ≡ values_bytes (value_of l.storage.entities l.handle) l.number ++ l.rest;
  free : (id : ComponentId) → l.number ≤ id.0 → value_of l.storage.entities l.handle id ≡ None;
  fits : (id : ComponentId) (v : ℤ) → value_of l.storage.entities l.handle id ≡ Some v
      → (id.0 < 256) × FitsSigned w64 v;
  birth : birth_of l.storage.entities l.handle ≡ birth_of l.fn.storage.entities l.handle;
  others : (h : Handle) → h ≢ l.handle
      → fin_get l.storage.entities h ≡ fin_get l.fn.storage.entities h;
  places : l.storage.places ≡ l.fn.storage.places;
  spare : l.storage.spare ≡ l.fn.storage.spare;
}
