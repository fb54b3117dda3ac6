-- The vector of slots that represents a map.
use Rattle.std.specs.Prelude.{◌≡◌, ℕ, ◌+◌, ◌-◌, ◌<◌, ◌^◌, ◌==◌, if◌then◌else◌, List, [], ◌∷◌, ◌++◌}
use Rattle.std.specs.Prelude.{length, replicate, slice_index_or, Option, None, Some}
use Rattle.std.specs.Bool.{⊤}
use Rattle.std.specs.List.{AllZip}
use Rattle.std.specs.FinMap as map
use Rattle.ent_handle.specs.Handle.{Handle}
use Rattle.ent_storage.specs.HandleMap.{HandleValues}
use Rattle.ent_storage.specs.declared.handle_map.slot.Slot.{Slot}
use Rattle.ent_storage.specs.declared.handle_map.slot.Slot.TheVariants.{Vacant, Occupied}

module _ {T : Type 0} where
  -- the generation of the occupant that has the value, or 0
  abbrev pub generation_of : Slot T → ℕ
  generation_of Vacant = 0
  generation_of (Occupied generation value) = generation

  -- how many values it has
  abbrev pub count_at : Slot T → ℕ
  count_at Vacant = 0
  count_at (Occupied generation value) = 1

  -- the handle of the occupant, if the slot is that of the index
  abbrev pub handle_in : Slot T → ℕ → Option Handle
  handle_in Vacant index = None
  handle_in (Occupied generation value) index =
      Some (record { index = index; generation = generation })

  -- the value
  abbrev pub any_value : Slot T → Option T
  any_value Vacant = None
  any_value (Occupied generation value) = Some value

  -- the value of the occupant of that generation
  abbrev pub value_under : Slot T → ℕ → Option T
  value_under Vacant wanted = None
  value_under (Occupied generation value) wanted = if generation == wanted then Some value else None

  -- what is in the slot of an index
  abbrev pub slot_at : List (Slot T) → ℕ → Slot T
  slot_at slots index = slice_index_or slots index Vacant

  -- the value of a handle
  abbrev pub value_in : List (Slot T) → Handle → Option T
  value_in slots h = value_under (slot_at slots h.index) h.generation

  -- the handles and values, if the first slot is that of the index
  abbrev pub entries_from : ℕ → List (Slot T) → List (Handle × T)
  entries_from index [] = []
  entries_from index (Vacant ∷ slots) = entries_from (index + 1) slots
  entries_from index (Occupied generation value ∷ slots) =
      (record { index = index; generation = generation }, value) ∷ entries_from (index + 1) slots

  -- the map that the slots represent
  abbrev pub map_of_slots : List (Slot T) → HandleValues T
  map_of_slots slots = map.from_sorted (entries_from 0 slots)

  -- the slots, with vacant ones behind until there are that many
  abbrev pub padded : List (Slot T) → ℕ → List (Slot T)
  padded slots count = slots ++ replicate (count - length slots) Vacant

  -- the slots from an index on are those of handles, and that many have a value
  pub record AreCounted (index : ℕ) (slots : List (Slot T)) (count : ℕ) : Type 0 where
    pub few : index + length slots < 2 ^ 32
    pub counted : count ≡ length (entries_from index slots)

  -- both have no value, or both have one of the same occupant, and that of the second is a clone
  abbrev pub IsSlotClone : (T → T → Type 0) → Slot T → Slot T → Type 0
  IsSlotClone is_clone Vacant Vacant = ⊤
  IsSlotClone is_clone Vacant (Occupied other w) = ⊥
  IsSlotClone is_clone (Occupied generation v) Vacant = ⊥
  IsSlotClone is_clone (Occupied generation v) (Occupied other w) =
      (other ≡ generation) × is_clone v w

  -- slot by slot, the second list has clones of the first one
  abbrev pub AreSlotClones : (T → T → Type 0) → List (Slot T) → List (Slot T) → Type 0
  AreSlotClones is_clone = AllZip (IsSlotClone is_clone)
