-- What contracts see of a sparse map, and the two vectors that represent it.
use Rattle.std.specs.Prelude.{◌≡◌, ◌≢◌, ℕ, ◌<◌, ◌≤◌, ◌^◌, ◌⊎◌, List, Some, length, slice_get, refl}
use Rattle.std.specs.Coded.{Coded, code_by, coded×, coded_ℕ}
use Rattle.std.specs.Prelude.{Option, None, IsSome, cond, is_some}
use Rattle.std.proofs.Common.{ap, ◌∙◌}
use Rattle.std.specs.Bool.{⊤}
use Rattle.std.specs.FinMap as map
use Rattle.ent_handle.specs.Handle.{Handle, handle_cmp, handle_cmp_total, handle_code}
use Rattle.ent_storage.specs.HandleMap.{HandleValues, same_handle}

-- the values, for how many values there is room, for how many slots, and how many may have values
pub record SparseMap (T : Type 0) : Type 0 where
  pub values : HandleValues T
  pub room : ℕ
  pub slots : ℕ
  pub limit : ℕ

-- a map is stored as the tuple of its parts
abbrev pub sparse_map_code : {T : Type 0} → Coded T → Coded (SparseMap T)
sparse_map_code {T} code =
    code_by (HandleValues T × (ℕ × (ℕ × ℕ)))
    (coded× (map.code handle_code code) (coded× coded_ℕ (coded× coded_ℕ coded_ℕ)))
    (λ m. (m.values, (m.room, (m.slots, m.limit))))
    (λ p. record { values = p.0; room = p.1.0; slots = p.1.1.0; limit = p.1.1.1 }) (λ _. refl)

module _ {T : Type 0} where
  -- the values of a list of handles and values
  abbrev pub values_of : List (Handle × T) → HandleValues T
  values_of entries = map.from_entries {R = handle_cmp} entries

  -- The list has each value of the map once, in some order.
  pub record AreEntries (values : HandleValues T) (entries : List (Handle × T)) : Type 0 where
    pub same : values_of entries ≡ values
    pub once : length entries ≡ map.len values

  -- each entry is where the position of its slot says, so no two entries are of one slot
  pub record IsPositioned (entries : List (Handle × T)) (positions : List ℕ) : Type 0 where
    pub few : length positions < 2 ^ 32
    pub entry : (k : ℕ) (h : Handle) (v : T) → slice_get entries k ≡ Some (h, v)
        → slice_get positions h.index ≡ Some k

  -- no entry is of the slot
  abbrev pub IsFree : List (Handle × T) → ℕ → Type 0
  IsFree entries index = (k : ℕ) (h : Handle) (v : T) → slice_get entries k ≡ Some (h, v)
      → h.index ≢ index

  -- there is no room for the value of a slot, or for one value more
  abbrev pub IsFullFor : SparseMap T → ℕ → Type 0
  IsFullFor m index = (m.slots ≤ index) ⊎ (m.room ≤ map.len m.values)

  -- no occupant of the slot has a value
  abbrev pub HasNone : HandleValues T → ℕ → Type 0
  HasNone m index = (h : Handle) → h.index ≡ index → map.get m h ≡ None

  -- the map after a write to the value of a handle
  abbrev pub with_written_in : SparseMap T → Handle → T → SparseMap T
  with_written_in m h value = record m { values = map.insert m.values h value }

  -- a handle that was given a value has one
  pub some_written : (m : SparseMap T) (h : Handle) (value : T)
      → IsSome (map.get (with_written_in m h value).values h)
  some_written m h value =
      ap is_some (map.get-insert handle_cmp_total m.values h value h
      ∙ ap (λ same. cond same (Some value) (map.get m.values h)) (same_handle h))

  -- the second value is a clone of the first one, or there is neither
  abbrev pub IsClonedOption : (T → T → Type 0) → Option T → Option T → Type 0
  IsClonedOption is_clone None None = ⊤
  IsClonedOption is_clone None (Some w) = ⊥
  IsClonedOption is_clone (Some v) None = ⊥
  IsClonedOption is_clone (Some v) (Some w) = is_clone v w

  -- the second map has a clone of each value of the first one, and no other value
  abbrev pub AreCloned : (T → T → Type 0) → HandleValues T → HandleValues T → Type 0
  AreCloned is_clone old new = (h : Handle)
      → IsClonedOption is_clone (map.get old h) (map.get new h)

  -- both entries are of the same handle, and the second value is a clone of the first one
  abbrev pub IsEntryClone : (T → T → Type 0) → Handle × T → Handle × T → Type 0
  IsEntryClone is_clone old new = (new.0 ≡ old.0) × is_clone old.1 new.1
