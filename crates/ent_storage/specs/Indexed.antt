-- The living entities as a list, and an index that has the place of each handle.
use Rattle.std.specs.Prelude.{◌≡◌, ◌≢◌, ℕ, ◌<◌, ◌≤◌, Bool, false, true, List, map, length, Option}
use Rattle.std.specs.Prelude.{None, Some, is_some, slice_get}
use Rattle.std.specs.List.{HoldsAt}
use Rattle.std.specs.Option.{option_map_or}
use Rattle.std.specs.Ordering.{eq_by_cmp}
use Rattle.std.specs.FinMap as finite
use Rattle.ent_handle.specs.Handle.{Handle, handle_cmp}
use Rattle.ent_storage.specs.Living.{LivingEntity}
use Rattle.ent_storage.specs.EntityMap.{Entity, EntityMap, Store}

-- what the entity is, without its handle
abbrev pub entity_of : LivingEntity → Entity
entity_of entity = record { birth = entity.birth; components = entity.components }

-- the entities of the list, each under its handle
abbrev pub map_of : List LivingEntity → EntityMap
map_of living = finite.from_entries (map (λ entity. (entity.handle, entity_of entity)) living)

-- their handles, place by place
abbrev pub handles_by_place : List LivingEntity → List Handle
handles_by_place living = map (λ entity. entity.handle) living

-- the index has the place of each entity of the list, and no other place
pub record IsIndexed (living : List LivingEntity) (index : finite.FinMap handle_cmp ℕ)
    : Type 0 where
  pub each_entity : (i : ℕ) → i < length living
      → HoldsAt (λ entity. finite.get index entity.handle ≡ Some i) living i
  pub each_place : (h : Handle) (i : ℕ) → finite.get index h ≡ Some i
      → (i < length living) × HoldsAt (λ entity. entity.handle ≡ h) living i

-- The residents without an index: no two have the same handle, as an index could have the place of
-- each, and there is room for them.
pub record AreApart (living : List LivingEntity) (room : ℕ) : Type 0 where
  pub index : finite.FinMap handle_cmp ℕ
  pub indexed : IsIndexed living index
  pub fits : length living ≤ room

-- ---- an index of handles by their places

-- whether the handle is at that place
abbrev pub has_handle_at : List Handle → Handle → Option ℕ → Bool
has_handle_at places h None = false
has_handle_at places h (Some i) =
    option_map_or (λ at. eq_by_cmp handle_cmp at h) (slice_get places i) false

-- The places that count: an index also keeps handles that are gone.
abbrev pub counted : List Handle → finite.FinMap handle_cmp ℕ → finite.FinMap handle_cmp ℕ
counted places index =
    finite.retain_keys index (λ h. has_handle_at places h (finite.get index h))

-- there is a pair at that position of an index, and it does not count
pub record IsFree (places : List Handle) (pairs : List (Handle × ℕ)) (position : ℕ)
    : Type 0 where
  pub inside : position < length pairs
  pub gone : HoldsAt (λ pair. has_handle_at places pair.0 (Some pair.1) ≡ false) pairs position

-- For proofs: one index has each place that the other has.
abbrev pub HasAll : finite.FinMap handle_cmp ℕ → finite.FinMap handle_cmp ℕ → Type 0
HasAll old new = (q : Handle) (i : ℕ) → finite.get old q ≡ Some i → finite.get new q ≡ Some i

-- an index keeps the places of all handles but one
abbrev pub Keeps : Handle → finite.FinMap handle_cmp ℕ → finite.FinMap handle_cmp ℕ → Type 0
Keeps h old new =
    (q : Handle) (i : ℕ) → q ≢ h → finite.get old q ≡ Some i → finite.get new q ≡ Some i

-- The entities and their index: each entity has a place, the index has the place of each handle,
-- and there is room for them.
pub record IsKeptIndex (s : Store) (index : finite.FinMap handle_cmp ℕ) (room : ℕ) : Type 0 where
  pub each_entity : (h : Handle) → is_some (finite.get s.entities h) ≡ true
      → (i : ℕ) × (slice_get s.places i ≡ Some h)
  pub each_place : (i : ℕ) (h : Handle) → slice_get s.places i ≡ Some h
      → is_some (finite.get s.entities h) ≡ true
  pub indexed : (i : ℕ) (h : Handle) → slice_get s.places i ≡ Some h
      → finite.get index h ≡ Some i
  pub fits : length s.places ≤ room
