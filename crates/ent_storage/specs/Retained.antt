-- What a closure leaves of the values that it is called at.
use Rattle.std.specs.Prelude.{◌≡◌, ℕ, Bool, if◌then◌else◌, List}
use Rattle.std.specs.Borrow.{MutBor}
use Rattle.std.specs.Map.Calls.{RetainsPairs}
use Rattle.ent_handle.specs.Handle.{Handle}
use Rattle.ent_storage.specs.declared.handle_map.slot.Slot.{Slot}
use Rattle.ent_storage.specs.declared.handle_map.slot.Slot.TheVariants.{Vacant, Occupied}

module _ {T F : Type 0} (step : F → Handle → MutBor T → Bool → MutBor T → F → Type 0) where
  -- a call of f at this handle and value may return `keep`, and leave this value and closure
  pub record CalledAt (f : F) (h : Handle) (old : T) (keep : Bool) (new : T) (next : F)
      : Type 0 where
    pub shown : MutBor T
    pub shows : shown.now ≡ old
    pub left : MutBor T
    pub called : step f h shown keep left next
    pub leaves : left.now ≡ new

  -- f was called at each entry in turn, and the second list has those at which it returned `true`,
  -- with the values that it left there
  abbrev pub Retains : F → List (Handle × T) → List (Handle × T) → Type 0
  Retains = RetainsPairs CalledAt

  -- f was called at the value of a slot, if it has one, and the slot keeps it if f returned `true`
  abbrev pub RetainsSlot : F → ℕ → Slot T → Slot T → F → Type 0
  RetainsSlot f index Vacant new next = (new ≡ Vacant) × (next ≡ f)
  RetainsSlot f index (Occupied generation old) new next =
      (keep : Bool) × (left : T)
      × CalledAt f (record { index = index; generation = generation }) old keep left next
      × (new ≡ (if keep then Occupied generation left else Vacant))
