-- The map that slots stand for: its entries, and what it has at each handle.
use Rattle.ent_storage.proofs.Common.{rules, All-cons, ◌≡◌, ◌≢◌, ℕ, zero, suc, ◌+◌, ◌-◌, ◌<◌, ◌≤◌}
use Rattle.ent_storage.proofs.Common.{false, cond, eqb, T, List, [], ◌∷◌, ◌++◌, length, get_or, set}
use Rattle.ent_storage.proofs.Common.{replicate, None, Some, refl, arith, not, common_steps}
use Rattle.ent_storage.proofs.Common.{AllPairs-cons, cases_eq, eq-eqb, nat_tests, get_or-set_same}
use Rattle.ent_storage.proofs.Common.{get_or-set_other, eq_by_cmp, find, is_sorted, below_all}
use Rattle.ent_storage.proofs.Common.{Handle, handle_cmp, handle_cmp_total}
use Rattle.ent_storage.proofs.Common.{handle_cmp-IsAntisymmetric, HandleMap, HandleValues}
use Rattle.ent_storage.proofs.Common.{without_slot, value_under, slot_at, value_in, entries_from}
use Rattle.ent_storage.proofs.Common.{map_of_slots, padded, count_at, Slot, Vacant, Occupied}
use Rattle.ent_storage.proofs.Common.{fin_empty, fin_empty_of_len, fin_entries}
use Rattle.ent_storage.proofs.Common.{fin_entries-from_sorted, fin_get, fin_get-from_sorted}
use Rattle.ent_storage.proofs.Common.{fin_get-insert, fin_get-remove, fin_get-retain_keys}
use Rattle.ent_storage.proofs.Common.{fin_insert, fin_len, fin_len-entries, fin_remove}
use Rattle.ent_storage.proofs.Common.{fin_same_map, All, AllPairs}

-- ---- handles

-- two handles of one slot tie where the generations are equal
ties_here : (a b : Handle) → a.index ≡ b.index
    → eq_by_cmp handle_cmp a b ≡ eqb a.generation b.generation
ties_here a b e = search (rules, eq-eqb)

-- those of two slots do not
pub ties_apart : (a b : Handle) → a.index ≢ b.index → eq_by_cmp handle_cmp a b ≡ false
ties_apart a b ne = grind (arith, common_steps)

eqb_sym : (a b : ℕ) → eqb a b ≡ eqb b a
eqb_sym a b = grind (arith, nat_tests)

module _ {X : Type 0} where
  -- ---- the entries rise

  above : (h : Handle) (index : ℕ) (slots : List (Slot X)) → h.index < index
      → T (below_all handle_cmp h (entries_from index slots))
  above h index [] l = tt
  above h index (slot ∷ slots) l = search (rules, above h (index + 1) slots (omega arith))

  pub rising : (index : ℕ) (slots : List (Slot X))
      → T (is_sorted handle_cmp (entries_from index slots))
  rising index [] = tt
  rising index (slot ∷ slots) = search (rules, above, rising (index + 1) slots)

  -- ---- what a handle finds

  find_before : (q : Handle) (index : ℕ) (slots : List (Slot X)) → q.index < index
      → find handle_cmp q (entries_from index slots) ≡ None
  find_before q index [] l = refl
  find_before q index (slot ∷ slots) l =
      search (rules, find_before q (index + 1) slots (omega arith))

  -- the first of the slots is not the one that is looked for
  later : (slot : Slot X) (slots : List (Slot X)) (q : Handle) (index : ℕ) → index < q.index
      → value_under (get_or slots (q.index - (index + 1)) Vacant) q.generation
      ≡ value_under (get_or (slot ∷ slots) (q.index - index) Vacant) q.generation
  later slot slots q index l = search rules

  -- it is
  first_one : (slot : Slot X) (slots : List (Slot X)) (q : Handle) (index : ℕ) → q.index ≡ index
      → value_under slot q.generation
      ≡ value_under (get_or (slot ∷ slots) (q.index - index) Vacant) q.generation
  first_one slot slots q index e = search rules

  find_from : (q : Handle) (index : ℕ) (slots : List (Slot X)) → index ≤ q.index
      → find handle_cmp q (entries_from index slots)
      ≡ value_under (get_or slots (q.index - index) Vacant) q.generation
  find_from q index [] l = search rules
  find_from q index (slot ∷ slots) l =
      search (
        rules,
        arith,
        cases_eq q.index index,
        ties_here,
        ties_apart,
        find_before,
        eqb_sym,
        first_one,
        later,
        find_from q (index + 1) slots,
      )

  -- what the map has at a handle
  pub get_map : (slots : List (Slot X)) (q : Handle)
      → fin_get (map_of_slots slots) q ≡ value_in slots q
  get_map slots q = search (rules, fin_get-from_sorted, rising, find_from q 0 slots (omega arith))

  -- the entries of the map
  pub entries_map : (slots : List (Slot X))
      → fin_entries (map_of_slots slots) ≡ entries_from 0 slots
  entries_map slots = search (rules, fin_entries-from_sorted, rising)

  pub len_map : (slots : List (Slot X))
      → fin_len (map_of_slots slots) ≡ length (entries_from 0 slots)
  len_map slots = search (rules, fin_len-entries, entries_map)

  -- no slots have no values
  pub map_none : map_of_slots {T = X} [] ≡ fin_empty
  map_none = fin_empty_of_len (map_of_slots []) (len_map [])

  pub map_emptied : (slots : List (Slot X)) (len room limit other : ℕ) → slots ≡ [] → len ≡ 0
      → limit ≡ other
      → ◌≡◌ {A = HandleMap X}
      (record { values = map_of_slots slots; slots = len; room = room; limit = limit })
      (record { values = fin_empty; slots = 0; room = room; limit = other })
  map_emptied slots len room limit other none no_slots same = search (rules, map_none)

  -- ---- a slot is set

  set_here : (slots : List (Slot X)) (h : Handle) (slot : Slot X) → h.index < length slots
      → (q : Handle) → q.index ≡ h.index
      → fin_get (map_of_slots (set slots h.index slot)) q ≡ value_under slot q.generation
  set_here slots h slot within q e = search (rules, get_map, get_or-set_same)

  set_elsewhere : (slots : List (Slot X)) (h : Handle) (slot : Slot X) (q : Handle)
      → q.index ≢ h.index → fin_get (map_of_slots (set slots h.index slot)) q
      ≡ fin_get (map_of_slots slots) q
  set_elsewhere slots h slot q ne = search (rules, get_map, get_or-set_other)

  get-without : (m : HandleValues X) (h q : Handle) → fin_get (without_slot m h.index) q
      ≡ cond (not (eqb q.index h.index)) (fin_get m q) None
  get-without m h q = search (rules, fin_get-retain_keys)

  -- in the slot of h, the map has but the value of h
  abbrev pub IsAlone : HandleValues X → Handle → X → Type 0
  IsAlone m h v = (q : Handle) → q.index ≡ h.index
      → fin_get m q ≡ cond (eq_by_cmp handle_cmp q h) (Some v) None

  -- two maps that differ in the slot of h alone
  module _ (m n : HandleValues X) (h : Handle) (elsewhere : (q : Handle) → q.index ≢ h.index
      → fin_get n q ≡ fin_get m q) where
    -- a value is put into the slot
    pub is_put : (v : X) → IsAlone n h v → n ≡ fin_insert (without_slot m h.index) h v
    is_put v here = fin_same_map handle_cmp_total handle_cmp-IsAntisymmetric _ _
        (λ q. let put = fin_get-insert handle_cmp_total (without_slot m h.index) h v q in
        let less = get-without m h
        q in let tie = ties_apart q h in grind (arith, nat_tests, here q, elsewhere q))

  -- a slot has the value of the handle
  abbrev pub HasValue : List (Slot X) → Handle → X → Type 0
  HasValue slots h value = slot_at slots h.index ≡ Occupied h.generation value

  alone : (slots : List (Slot X)) (h : Handle) (value : X) → HasValue slots h value
      → IsAlone (map_of_slots slots) h value
  alone slots h value has q e = search (rules, get_map, eqb_sym, ties_here)

  alone_set : (slots : List (Slot X)) (h : Handle) (value : X) → h.index < length slots
      → IsAlone (map_of_slots (set slots h.index (Occupied h.generation value))) h value
  alone_set slots h value within q e = search (rules, set_here, eqb_sym, ties_here)

  pub map-put : (slots : List (Slot X)) (h : Handle) (value : X) → h.index < length slots
      → map_of_slots (set slots h.index (Occupied h.generation value))
      ≡ fin_insert (without_slot (map_of_slots slots) h.index) h value
  map-put slots h value within = search (rules, is_put, set_elsewhere, alone_set)

  pub map-write : (slots : List (Slot X)) (h : Handle) (old value : X) → h.index < length slots
      → HasValue slots h old → map_of_slots (set slots h.index (Occupied h.generation value))
      ≡ fin_insert (map_of_slots slots) h value
  map-write slots h old value within has =
      fin_same_map handle_cmp_total handle_cmp-IsAntisymmetric _ _ (λ q. grind (
        arith,
        nat_tests,
        fin_get-insert handle_cmp_total (map_of_slots slots) h value q,
        ties_apart q h,
        alone slots h old has q,
        alone_set slots h value within q,
        set_elsewhere slots h (Occupied h.generation value) q,
      ))

  pub map-take : (slots : List (Slot X)) (h : Handle) (value : X) → h.index < length slots
      → HasValue slots h value → map_of_slots (set slots h.index Vacant)
      ≡ fin_remove (map_of_slots slots) h
  map-take slots h value within has =
      fin_same_map handle_cmp_total handle_cmp-IsAntisymmetric _ _ (λ q. grind (
        arith,
        nat_tests,
        fin_get-remove handle_cmp_total (map_of_slots slots) h q,
        ties_apart q h,
        alone slots h value has q,
        set_here slots h Vacant within q,
        set_elsewhere slots h Vacant q,
      ))

  -- how many there are after a slot is set
  pub length-set_slot : (index : ℕ) (slots : List (Slot X)) (at : ℕ) (slot : Slot X)
      → at < length slots → length (entries_from index (set slots at slot))
      + count_at (slot_at slots at) ≡ length (entries_from index slots) + count_at slot
  length-set_slot index [] at slot within = absurd (omega arith)
  length-set_slot index (x ∷ slots) zero slot within = search rules
  length-set_slot index (x ∷ slots) (suc at) slot within =
      search (rules, length-set_slot (index + 1) slots)

  -- ---- vacant slots behind

  entries_vacant : (index count : ℕ) → entries_from {T = X} index (replicate count Vacant) ≡ []
  entries_vacant index zero = refl
  entries_vacant index (suc count) = entries_vacant (index + 1) count

  entries_more : (index : ℕ) (slots : List (Slot X)) (count : ℕ)
      → entries_from index (slots ++ replicate count Vacant) ≡ entries_from index slots
  entries_more index [] count = entries_vacant index count
  entries_more index (slot ∷ slots) count = search (rules, entries_more (index + 1) slots count)

  pub entries_padded : (slots : List (Slot X)) (count : ℕ)
      → entries_from 0 (padded slots count) ≡ entries_from 0 slots
  entries_padded slots count = entries_more 0 slots (count - length slots)

  pub map_more : (slots : List (Slot X)) (count : ℕ)
      → map_of_slots (slots ++ replicate count Vacant) ≡ map_of_slots slots
  map_more slots count = search (rules, entries_more)

  pub map_padded : (slots : List (Slot X)) (count : ℕ)
      → map_of_slots (padded slots count) ≡ map_of_slots slots
  map_padded slots count = map_more slots (count - length slots)

  -- ---- a slot with a value behind

  pub entries_pushed : (index : ℕ) (slots : List (Slot X)) (generation : ℕ) (value : X)
      → length (entries_from index (slots ++ Occupied generation value ∷ []))
      ≡ length (entries_from index slots) + 1
  entries_pushed index [] generation value = refl
  entries_pushed index (slot ∷ slots) generation value =
      search (rules, entries_pushed (index + 1) slots generation value)

  -- ---- in pairs

  entries_after : (from index : ℕ) (slots : List (Slot X)) → from ≤ index
      → All (λ e. from ≤ e.0.index) (entries_from index slots)
  entries_after from index [] least = λ k d l. absurd (omega (arith, l))
  entries_after from index (slot ∷ slots) least = search
      (rules, All-cons, entries_after from (index + 1) slots (omega arith))

  pub pairs_rising : (index : ℕ) (slots : List (Slot X))
      → AllPairs (λ a b. a.0.index < b.0.index) (entries_from index slots)
  pairs_rising index [] = λ i j d l m. absurd (omega (arith, m))
  pairs_rising index (slot ∷ slots) =
      search (rules, AllPairs-cons, entries_after, pairs_rising (index + 1) slots)
