-- What contracts see of a map from handles.
use Rattle.std.specs.Prelude.{◌≡◌, ℕ, ◌-◌, ◌^◌, ◌<◌, ◌≤◌, ◌==◌, ◌⊎◌, not, refl, Option, None, Some}
use Rattle.std.specs.Prelude.{Result, Ok, Err, cond, is_some, true}
use Rattle.std.specs.Ordering.{eq_by_cmp}
use Rattle.std.specs.Cmp.{eq_by_cmp_equiv}
use Rattle.std.proofs.Common.{ap, ◌∙◌}
use Rattle.std.specs.Option.{IsSome}
use Rattle.std.specs.Coded.{Coded, code_by, coded×, coded_ℕ}
use Rattle.std.specs.FinMap as map
use Rattle.ent_handle.specs.HandedBack.{HandedBack}
use Rattle.ent_handle.specs.Handle.{Handle, handle_cmp, handle_cmp_total, handle_code}
use Rattle.ent_storage.specs.declared.handle_map.error.InsertError.{InsertError}

-- a value for each of some handles
abbrev pub HandleValues : Type 0 → Type 0
HandleValues T = map.FinMap handle_cmp T

-- the values, how many slots there are, for how many there is room, and how many may have values
pub record HandleMap (T : Type 0) : Type 0 where
  pub values : HandleValues T
  pub slots : ℕ
  pub room : ℕ
  pub limit : ℕ

-- a map is stored as the tuple of its parts
abbrev pub handle_map_code : {T : Type 0} → Coded T → Coded (HandleMap T)
handle_map_code {T} code =
    code_by (HandleValues T × (ℕ × (ℕ × ℕ)))
    (coded× (map.code handle_code code) (coded× coded_ℕ (coded× coded_ℕ coded_ℕ)))
    (λ m. (m.values, (m.slots, (m.room, m.limit))))
    (λ p. record { values = p.0; slots = p.1.0; room = p.1.1.0; limit = p.1.1.1 }) (λ _. refl)

-- the limit of a map that has none: the greatest number of slots
abbrev pub no_limit : ℕ
no_limit = 2 ^ 32 - 1

-- the last handle, which no map takes
abbrev pub placeholder : Handle
placeholder = record { index = 2 ^ 32 - 2; generation = 2 ^ 31 - 1 }

-- a map with the limit takes no value for the handle
abbrev pub IsBeyond : ℕ → Handle → Type 0
IsBeyond limit h = (limit ≤ h.index) ⊎ (h ≡ placeholder)

-- a handle is equal to itself
pub same_handle : (h : Handle) → eq_by_cmp handle_cmp h h ≡ true
same_handle h = (eq_by_cmp_equiv handle_cmp_total).refl h

module _ {T : Type 0} where
  -- the values without that of the slot
  abbrev pub without_slot : HandleValues T → ℕ → HandleValues T
  without_slot m index = map.retain_keys m (λ h. not (h.index == index))

  -- a later occupant of the handle's slot has a value
  abbrev pub HasLater : HandleValues T → Handle → Type 0
  HasLater m h = (generation : ℕ) × (h.generation < generation)
      × IsSome (map.get m (record { index = h.index; generation = generation }))

  -- the map after a write to the value of a handle
  abbrev pub with_written : HandleMap T → Handle → T → HandleMap T
  with_written m h value = record m { values = map.insert m.values h value }

  -- a handle that was given a value has one
  pub some_written : (m : HandleMap T) (h : Handle) (value : T)
      → IsSome (map.get (with_written m h value).values h)
  some_written m h value =
      ap is_some (map.get-insert handle_cmp_total m.values h value h
      ∙ ap (λ same. cond same (Some value) (map.get m.values h)) (same_handle h))

  -- why a value was not inserted
  abbrev pub error_of : {A : Type 0} → Result A (HandedBack T InsertError) → Option InsertError
  error_of (Ok _) = None
  error_of (Err refused) = Some refused.error
