-- The columns in use, after each change, and their items at a place.
use Rattle.ent_storage.proofs.Common.{rules, ◌≡◌, ◌≢◌, ℕ, ◌+◌, ◌-◌, ◌<◌, ◌≤◌, ◌⊎◌, inl, inr, List}
use Rattle.ent_storage.proofs.Common.{[], length, get_or, set, Contains, None, sym, ap, ◌∙◌, arith}
use Rattle.ent_storage.proofs.Common.{common_steps, cases_lt, cases_eq, cases_order, get_or_default}
use Rattle.ent_storage.proofs.Common.{length-insert, get_or-insert_below, get_or-insert_at}
use Rattle.ent_storage.proofs.Common.{get_or-insert_above, AllPairs, insert, Column, no_column}
use Rattle.ent_storage.proofs.Common.{HasRoomAt, IsMovedDown, column_at, AreInUse, fin_get}
use Rattle.ent_storage.proofs.Common.{fin_get-empty, nat_cmp_total as total}
use Rattle.ent_storage.proofs.Common.{nat_cmp-IsAntisymmetric as same, ℤ, zero, suc, ◌∷◌, Option, T}
use Rattle.ent_storage.proofs.Common.{is_some, refl, All, count_by, find, is_sorted, below_all}
use Rattle.ent_storage.proofs.Common.{ComponentId, component_cmp, component_cmp_total}
use Rattle.ent_storage.proofs.Common.{component_cmp-IsAntisymmetric, value_at, with_value}
use Rattle.ent_storage.proofs.Common.{items_from, items_of, Contains-tail, fin_same_entries}
use Rattle.ent_storage.proofs.Keys.{same_or_apart, tied}
use Rattle.ent_storage.proofs.ColumnsAtPlaces.{column_set, column_kept, id_of, all_above_value}
use Rattle.ent_storage.proofs.ColumnsAtPlaces.{rising_value, items_rising, find_items}

pub in_use_none : AreInUse [] []
in_use_none = search (rules)

-- the columns were changed, and none of the others was
pub in_use_changed : (used : List ℕ) (old new : List Column) → length old ≤ length new
    → ((n : ℕ) → column_at old n ≡ no_column → Contains used n ⊎ (column_at new n ≡ no_column))
    → AreInUse used old → AreInUse used new
in_use_changed used old new longer kept in_use = search (rules)

-- ---- a number is put in its gap

pub rising_from_start : (used : List ℕ) → AllPairs (λ a b. a < b) used → (i j : ℕ) → i ≤ j
    → j < length used → get_or used i 0 ≤ get_or used j 0
rising_from_start used rising i j l m = search (rules, cases_eq)

module _ (used : List ℕ) (gap number : ℕ) (within : gap ≤ length used)
    (below : (k : ℕ) → k < gap → get_or used k 0 < number)
    (above : (k : ℕ) → gap ≤ k → k < length used → number
    < get_or used k 0) where
  abbrev more : List ℕ
  more = insert used gap number

  -- what stands at a position: what stood there, the number, or what stood one before
  placed : (k d : ℕ) → k < length more
      → ((k < gap) × (get_or more k d ≡ get_or used k d) × (get_or used k d < number))
      ⊎ (((k ≡ gap) × (get_or more k d ≡ number))
      ⊎ ((gap < k) × (k - 1 < length used) × (get_or more k d ≡ get_or used (k - 1) d)
      × (number < get_or used (k - 1) d)))
  placed k d l = elim (cases_order k gap) [
    | inl e ↦ let here = get_or-insert_at used gap number d within in inr (inl (e, cc))
    | inr far ↦ elim far [
      | inl m ↦ search (
        rules,
        get_or_default used k d 0,
        get_or-insert_below used gap number d k m within,
        below k m,
      )
      | inr m ↦
          let back : k - 1 + 1 ≡ k = omega arith in
          let last : k - 1 < length used = omega (arith, length-insert used gap number within) in
          search (
            rules,
            arith,
            get_or_default used (k - 1) d 0 last,
            get_or-insert_above used gap number d (k - 1),
            above (k - 1),
          )
    ]
  ]

  pub in_use_inserted : (columns : List Column) → number < length columns → AreInUse used columns
      → AreInUse more columns
  in_use_inserted columns inside in_use = search
      (rules, placed, cases_lt, get_or-insert_below, length-insert, get_or-insert_above)

-- ---- a column without values or room stays as it is

-- a column without room is not set
pub rest_kept : (old new : List Column) (place item n : ℕ)
    → ((k : ℕ) → k ≢ item → column_at new k ≡ column_at old k)
    → HasRoomAt (column_at old item) place → column_at old n ≡ no_column
    → column_at new n ≡ no_column
rest_kept old new place item n others room none = search (rules, cases_eq n item, fin_get-empty)

-- a column without values is not changed where a value is taken out
pub removed_rest : (columns : List Column) (id n : ℕ) (was is : Column) (place : ℕ)
    → id < length columns → was ≡ get_or columns id was
    → (fin_get (get_or columns id was).values place ≡ None → is ≡ get_or columns id was)
    → column_at columns n ≡ no_column → column_at (set columns id is) n ≡ no_column
removed_rest columns id n was is place inside read stays none = search
    (rules, cases_eq n id, column_set, column_kept, fin_get-empty, get_or_default)

-- a column in use is changed
pub in_use_set : (used : List ℕ) (columns : List Column) (id : ℕ) (is : Column) → Contains used id
    → AreInUse used columns → AreInUse used (set columns id is)
in_use_set used columns id is there in_use = grind (arith, common_steps)

-- the columns in use are passed one by one
module _ (used : List ℕ) (place last : ℕ) (old : List Column) where
  -- the number is one of the first i in use
  abbrev Passed : ℕ → ℕ → Type 0
  Passed i n = (k : ℕ) × (k < i) × ((d : ℕ) → get_or used k d ≡ n)

  abbrev Ahead : ℕ → ℕ → Type 0
  Ahead i n = (k d : ℕ) → k < i → get_or used k d ≢ n

  -- the columns that were passed have moved, and the others are as they were
  abbrev pub IsPassed : ℕ → List Column → ℕ → Type 0
  IsPassed i new n =
      (Passed i n × IsMovedDown place last (column_at old n).values (column_at new n).values)
      ⊎ (Ahead i n × (column_at new n ≡ column_at old n))

  -- the next column in use has moved
  module _ (i : ℕ) (new : List Column) (was is : Column) (rising : AllPairs (λ a b. a < b) used)
      (within : i < length used) (inside : get_or used i 0 < length new)
      (read : was ≡ get_or new (get_or used i 0) was)
      (moved : IsMovedDown place last (get_or new (get_or used i 0) was).values is.values) where
    pub passed_more : ((n : ℕ) → IsPassed i new n) → (n : ℕ)
        → IsPassed (i + 1) (set new (get_or used i 0) is) n
    passed_more passed n = by (passed n) (same_or_apart total same n (get_or used i 0))
      where
        by : IsPassed i new n → (n ≡ get_or used i 0) ⊎ (n ≢ get_or used i 0)
            → IsPassed (i + 1) (set new (get_or used i 0) is) n
        by (inl before) (inl e) = absurd
            (omega (arith, e, before.0.2 0, rising before.0.0 i 0 before.0.1 within))
        by (inr ahead) (inl e) =
            let column = sym ahead.1 ∙ ap (column_at new) e
            ∙ sym (get_or_default new (get_or used i 0) was no_column inside) in
            let set_to = column_set new (get_or used i 0) was is inside read in
            inl (
              (i, omega arith, λ d. get_or_default used i d 0 within ∙ sym e),
              search (rules, column, set_to, moved),
            )
        by (inl before) (inr far) = search (rules, column_kept)
        by (inr ahead) (inr far) = search
            (rules, arith, cases_eq, column_kept, get_or_default used i)

  pub passed_all : AreInUse used old → (i : ℕ) (new : List Column) → length used ≤ i
      → ((n : ℕ) → IsPassed i new n) → (n : ℕ)
      → IsMovedDown place last (column_at old n).values (column_at new n).values
  passed_all in_use i new whole passed n = search (rules, fin_get-empty)

-- ---- the items of the columns in use are all items at a place

-- one number after the other
pub count_items : (used : List ℕ) (columns : List Column) (place : ℕ)
    → count_by (λ number. is_some (value_at columns place (record { 0 = number }))) used
    ≡ length (items_of used columns place)
count_items [] columns place = refl
count_items (n ∷ used) columns place = grind (arith, common_steps, count_items used columns place)

-- all of them
module _ (columns : List Column) (place : ℕ) where
  above_of : (k : ℕ) (used : List ℕ) → All (λ u. k < u) used
      → T (below_all component_cmp (id_of k) (items_of used columns place))
  above_of k [] above = tt
  above_of k (u ∷ used) above =
      let rest = above_of k used (λ j d l. above (suc j) d (omega arith)) in
      search (rules, all_above_value, above zero u)

  rising_of : (used : List ℕ) → AllPairs (λ a b. a < b) used
      → T (is_sorted component_cmp (items_of used columns place))
  rising_of [] rising = tt
  rising_of (u ∷ used) rising = search (
    rules,
    rising_value,
    above_of u used (λ j d l. rising zero (suc j) d (omega arith) (omega arith)),
    rising_of used (λ i j d l m. rising (suc i) (suc j) d (omega arith) (omega arith)),
  )

  found_here : (o : Option ℤ) (u : ℕ) (items : List (ComponentId × ℤ)) (id : ComponentId) → u ≡ id.0
      → (o ≡ None → find component_cmp id items ≡ None)
      → find component_cmp id (with_value o u items) ≡ o
  found_here o u items id e rest = search (rules, tied)

  -- a component that is not listed has no value
  find_of : (used : List ℕ) (id : ComponentId)
      → Contains used id.0 ⊎ (value_at columns place id ≡ None)
      → find component_cmp id (items_of used columns place) ≡ value_at columns place id
  find_of [] id (inl at) = absurd (omega (arith, at.1))
  find_of [] id (inr none) = sym none
  find_of (u ∷ used) id at = elim (cases_eq u id.0) [
    | inl e ↦ let is = ap (λ (n : ℕ). fin_get (column_at columns n).values place) e in
        found_here _ u _ id e (λ none. find_of used id (inr (sym is ∙ none)) ∙ sym is ∙ none) ∙ is
    | inr far ↦ search (rules, Contains-tail u used id.0 far, find_of used id, common_steps)
  ]

  -- the law
  pub items_in_use : (used : List ℕ) → AreInUse used columns
      → items_of used columns place ≡ items_from 0 columns place
  items_in_use used in_use =
      fin_same_entries component_cmp component_cmp_total component_cmp-IsAntisymmetric _ _
      (rising_of used in_use.rising) (items_rising 0 columns place) (λ id.
      let at = find_items 0 columns place id id.0 (omega arith) in
      search (rules, find_of used id, in_use.rest id.0, fin_get-empty))
