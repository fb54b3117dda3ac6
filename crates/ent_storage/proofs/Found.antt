-- The slot of a handle that has a value.
use Rattle.ent_storage.proofs.Common.{common_steps, rules, ◌≡◌, ◌≢◌, ℕ, ◌+◌, ◌-◌, ◌<◌, ◌≤◌, ◌^◌, true}
use Rattle.ent_storage.proofs.Common.{false, List, [], ◌∷◌, length, get_or, set, Some, is_some}
use Rattle.ent_storage.proofs.Common.{refl, sym, ap, ◌∙◌, ◌++◌, arith, true≢false, cases_lt}
use Rattle.ent_storage.proofs.Common.{eq-eqb, get_or_past, set_at}
use Rattle.ent_storage.proofs.Common.{length-append, length-replicate, get_or_default, Handle}
use Rattle.ent_storage.proofs.Common.{handle_cmp_total, handle_cmp-IsAntisymmetric, HandleValues}
use Rattle.ent_storage.proofs.Common.{without_slot, HasLater, value_under, slot_at, entries_from}
use Rattle.ent_storage.proofs.Common.{map_of_slots, count_at, AreCounted, padded, generation_of}
use Rattle.ent_storage.proofs.Common.{Slot, Vacant, Occupied, None, fin_get, fin_insert, fin_remove}
use Rattle.ent_storage.proofs.Common.{fin_same_map, length-set}
use Rattle.ent_storage.proofs.Entries.{HasValue, get_map, length-set_slot, map_padded, map-put}
use Rattle.ent_storage.proofs.Entries.{entries_padded, entries_pushed, map_more}
use Rattle.ent_storage.proofs.Keys.{remove_tells}

module _ {X : Type 0} where
  -- a handle without a value
  pub remove_absent : (m : HandleValues X) (h : Handle) → is_some (fin_get m h) ≡ false
      → fin_remove m h ≡ m
  remove_absent m h none = fin_same_map handle_cmp_total handle_cmp-IsAntisymmetric _ _
      (λ q. grind (arith, remove_tells handle_cmp_total handle_cmp-IsAntisymmetric m h q))

  -- the slot of a handle that the map has
  pub found : (slots : List (Slot X)) (values : HandleValues X) (h : Handle)
      → map_of_slots slots ≡ values → is_some (fin_get values h) ≡ true
      → (value : X) × HasValue slots h value
  found slots values h is some = search (rules, get_map slots h)

  -- it was made
  pub made : (slots : List (Slot X)) (h : Handle) (value : X) → HasValue slots h value
      → h.index < length slots
  made slots h value has = search (rules, cases_lt, true≢false, get_or_past)

  -- what the map has at the handle
  pub had : (slots : List (Slot X)) (values : HandleValues X) (h : Handle) (value : X)
      → map_of_slots slots ≡ values → HasValue slots h value
      → value_under (slot_at slots h.index) h.generation ≡ fin_get values h
  had slots values h value is has = search (rules, get_map slots h)

  -- one value fewer
  pub counted-take : (slots : List (Slot X)) (h : Handle) (value : X) (count : ℕ)
      → HasValue slots h value → AreCounted 0 slots count
      → (1 ≤ count) × AreCounted 0 (set slots h.index Vacant) (count - 1)
  counted-take slots h value count has are =
      let within = made slots h value has in
      search (rules, length-set_slot 0 slots h.index Vacant within, within)

  -- as many
  pub counted-write : (slots : List (Slot X)) (h : Handle) (old value : X) (count : ℕ)
      → HasValue slots h old → AreCounted 0 slots count
      → AreCounted 0 (set slots h.index (Occupied h.generation value)) count
  counted-write slots h old value count has are = search (rules, made, length-set_slot, length-set)

  -- what an index of the vector reads
  pub read : (slots : List (Slot X)) (at : ℕ) (x : Slot X) → at < length slots
      → x ≡ get_or slots at x → x ≡ slot_at slots at
  read slots at x within e = search (rules, get_or_default)

  pub read_of : (slots : List (Slot X)) (h : Handle) (value : X) (at : ℕ) (x : Slot X)
      → HasValue slots h value → at ≡ h.index → x ≡ get_or slots at x
      → x ≡ Occupied h.generation value
  read_of slots h value at x has is e = search (rules, read, made)

  -- the map has the value
  pub got : (slots : List (Slot X)) (values : HandleValues X) (h : Handle) (value : X)
      → map_of_slots slots ≡ values → HasValue slots h value → fin_get values h ≡ Some value
  got slots values h value is has = search (rules, had, eq-eqb)

  -- ---- a later occupant of the slot

  pub later : (slots : List (Slot X)) (values : HandleValues X) (h : Handle)
      → map_of_slots slots ≡ values → h.generation < generation_of (slot_at slots h.index)
      → HasLater values h
  later slots values h is above =
      elim (slot_at slots h.index) as (λ slot. slot_at slots h.index ≡ slot → HasLater
      values h) [
        | Vacant ↦ λ e. absurd (omega (arith, rw e at above))
        | Occupied g value ↦ λ e. (g, rw e at above, ap is_some (got _ _ _ _ is e))
      ] refl

  pub no_later : (slots : List (Slot X)) (values : HandleValues X) (h : Handle)
      → map_of_slots slots ≡ values → generation_of (slot_at slots h.index) ≤ h.generation
      → HasLater values h → ⊥
  no_later slots values h is least (g, above, some) = search (rules, found)

  -- ---- a value is put into the slot of a handle

  length-entries_le : (index : ℕ) (slots : List (Slot X))
      → length (entries_from index slots) ≤ length slots
  length-entries_le index [] = omega arith
  length-entries_le index (slot ∷ slots) = search (rules, length-entries_le (index + 1) slots)

  pub few_values : (slots : List (Slot X)) (count : ℕ) → AreCounted 0 slots count → count < 2 ^ 32
  few_values slots count are = omega (arith, are.few, are.counted, length-entries_le 0 slots)

  one_value : (slot : Slot X) → count_at slot ≢ 0 → count_at slot ≡ 1
  one_value Vacant some = absurd (some refl)
  one_value (Occupied generation value) some = refl

  module _ (slots : List (Slot X)) (h : Handle) (index : ℕ) (before after : Slot X) (value : X)
      (at : index ≡ h.index) (within : index < length slots)
      (was : before ≡ get_or slots index before)
      (written : after ≡ Occupied h.generation value) where
    pub put-map : (values : HandleValues X) → map_of_slots slots ≡ values
        → map_of_slots (set slots index after) ≡ fin_insert (without_slot values h.index) h value
    put-map values stands = search (rules, map-put)

    pub put-before : (values : HandleValues X) → map_of_slots slots ≡ values
        → value_under before h.generation ≡ fin_get values h
    put-before values stands = grind (arith, common_steps, get_map, read)

    pub put-added : (count : ℕ) → AreCounted 0 slots count → count_at before ≡ 0
        → AreCounted 0 (set slots index after) (count + 1)
    put-added count are none = search (rules, length-set_slot, read, length-set)

    pub put-kept : (count : ℕ) → AreCounted 0 slots count → count_at before ≢ 0
        → AreCounted 0 (set slots index after) count
    put-kept count are some =
        search (rules, length-set_slot, read, length-set, one_value before some)

  -- a vacant slot has no value of any handle
  pub none_under : (slot : Slot X) (generation : ℕ) → count_at slot ≡ 0
      → value_under slot generation ≡ None
  none_under Vacant generation is = refl
  none_under (Occupied other value) generation is = absurd (omega (arith, is))

  -- ---- slots are added

  -- vacant ones
  pub counted-padded : (slots all : List (Slot X)) (index count : ℕ) → all ≡ padded slots index
      → length slots ≤ index → index < 2 ^ 32 → AreCounted 0 slots count → AreCounted 0 all count
  counted-padded slots all index count is past few are =
      search (rules, entries_padded, length-append, length-replicate)

  -- the next one, with the value of a handle
  module _ (slots all : List (Slot X)) (h : Handle) (value : X) (at : length slots ≡ h.index)
      (is : all ≡ slots ++ Occupied h.generation value ∷ []) where
    abbrev more : List (Slot X)
    more = slots ++ Vacant ∷ []

    made_next : all ≡ set more h.index (Occupied h.generation value)
    made_next = is ∙ sym (set_at slots Vacant [] (Occupied h.generation value) h.index at)

    within_more : h.index < length more
    within_more = omega (arith, at, length-append slots (Vacant ∷ []))

    pub pushed-map : (values : HandleValues X) → map_of_slots slots ≡ values
        → map_of_slots all ≡ fin_insert (without_slot values h.index) h value
    pushed-map values stands = ap map_of_slots made_next ∙ map-put more h value within_more
        ∙ ap (λ (m : HandleValues X). fin_insert (without_slot m h.index) h value)
        (map_more slots 1 ∙ stands)

    pub pushed-counted : (count : ℕ) → h.index < 2 ^ 32 - 1 → AreCounted 0 slots count
        → AreCounted 0 all (count + 1)
    pushed-counted count few are = record {
      few = omega (
        arith,
        few,
        at,
        ap length is,
        length-append slots (Occupied h.generation value ∷ []),
      );
      counted = ap (λ n. n + 1) are.counted
          ∙ sym (ap (λ (s : List (Slot X)). length (entries_from 0 s)) is
          ∙ entries_pushed 0 slots h.generation value);
    }
