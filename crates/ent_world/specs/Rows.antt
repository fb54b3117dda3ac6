-- For invariants, private contracts and proofs: the row that an allocator keeps with each living
-- handle is the entity's place in the storage.
use Rattle.std.specs.Prelude.{◌≡◌, ◌↔◌, ℕ, ◌+◌, List, [], ◌∷◌, Option, None, Some, slice_get}
use Rattle.std.specs.FinMap as map
use Rattle.ent_handle.specs.Handle.{Handle, handle_cmp}
use Rattle.ent_storage.specs.EntityMap.{EntityMap}

-- the rows of handles
abbrev pub Rows : Type 0
Rows = map.FinMap handle_cmp ℕ

-- each handle of the list has its place there as its row, and no other handle has one
abbrev pub ArePlaces : Rows → List Handle → Type 0
ArePlaces rows places =
    (h : Handle) (place : ℕ) → (map.get rows h ≡ Some place) ↔ (slice_get places place ≡ Some h)

-- The rows are the places, and just those that have an entity have one.
pub record AreRows (rows : Rows) (places : List Handle) (m : EntityMap) : Type 0 where
  pub at : ArePlaces rows places
  pub each : (h : Handle) → map.contains_key rows h ≡ map.contains_key m h

-- these handles have the next rows, from this one on
abbrev pub with_rows : Rows → ℕ → List Handle → Rows
with_rows rows row [] = rows
with_rows rows row (h ∷ hs) = with_rows (map.insert rows h row) (row + 1) hs

-- the handle that has moved into a place, if there is one, has it as its row
abbrev pub with_moved : Rows → ℕ → Option Handle → Rows
with_moved rows place None = rows
with_moved rows place (Some h) = map.insert rows h place
