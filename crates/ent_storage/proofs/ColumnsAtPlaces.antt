-- What columns have at a place, and after each change.
use Rattle.ent_storage.proofs.Common.{rules, ◌≡◌, ◌≢◌, ℕ, ℤ, zero, suc, ◌+◌, ◌<◌, ◌≤◌, T, ◌⊎◌, inl}
use Rattle.ent_storage.proofs.Common.{inr, List, [], ◌∷◌, length, get_or, set, Option, Some, None}
use Rattle.ent_storage.proofs.Common.{refl, sym, ◌∙◌, arith, none-some, get_or_past}
use Rattle.ent_storage.proofs.Common.{get_or-set_same, get_or-set_other, cases_lt, cases_eq}
use Rattle.ent_storage.proofs.Common.{nat_cmp, nat_cmp_total, find, is_sorted, below_all}
use Rattle.ent_storage.proofs.Common.{ComponentId, component_cmp, Column, no_column, HasRoomAt}
use Rattle.ent_storage.proofs.Common.{column_at, value_at, with_value, items_from, components_at}
use Rattle.ent_storage.proofs.Common.{fin_empty, fin_entries, fin_entries-from_sorted, fin_get}
use Rattle.ent_storage.proofs.Common.{fin_get-empty, fin_get-from_sorted, fin_insert, fin_remove}
use Rattle.ent_storage.proofs.Common.{fin_same_map, nat_cmp-IsAntisymmetric}
use Rattle.ent_storage.proofs.Common.{component_cmp_total as total}
use Rattle.ent_storage.proofs.Common.{component_cmp-IsAntisymmetric as same}
use Rattle.ent_storage.proofs.Rising.{both}
use Rattle.ent_storage.proofs.Keys.{tied, apart, same_or_apart, get-insert_same, get-insert_other}
use Rattle.ent_storage.proofs.Keys.{get-remove_same, get-remove_other, remove_absent}

pub id_of : ℕ → ComponentId
id_of n = record { 0 = n }

-- ---- the items are in the order of numbers

pub all_above_value : (k n : ℕ) (o : Option ℤ) (items : List (ComponentId × ℤ)) → k < n
    → T (below_all component_cmp (id_of k) items)
    → T (below_all component_cmp (id_of k) (with_value o n items))
unfolding id_of
all_above_value k n o items l rest = search (rules, both)

all_above : (k n : ℕ) (columns : List Column) (place : ℕ) → k < n
    → T (below_all component_cmp (id_of k) (items_from n columns place))
all_above k n [] place l = tt
all_above k n (column ∷ columns) place l = search
    (rules, all_above_value, all_above k (suc n) columns place (omega arith))

pub rising_value : (n : ℕ) (o : Option ℤ) (items : List (ComponentId × ℤ))
    → T (below_all component_cmp (id_of n) items) → T (is_sorted component_cmp items)
    → T (is_sorted component_cmp (with_value o n items))
unfolding id_of
rising_value n o items above rest = search (rules, both)

pub items_rising : (n : ℕ) (columns : List Column) (place : ℕ)
    → T (is_sorted component_cmp (items_from n columns place))
items_rising n [] place = tt
items_rising n (column ∷ columns) place =
    search (rules, rising_value, all_above, items_rising (suc n) columns place)

-- ---- the value of each component

-- components of smaller numbers are not among the items
find_below : (n : ℕ) (columns : List Column) (place : ℕ) (id : ComponentId) → id.0 < n
    → find component_cmp id (items_from n columns place) ≡ None
find_below n [] place id l = refl
find_below n (column ∷ columns) place id l =
    search (rules, find_below (suc n) columns place id (omega arith))

pub find_items : (n : ℕ) (columns : List Column) (place : ℕ) (id : ComponentId) (k : ℕ)
    → n + k ≡ id.0 → find component_cmp id (items_from n columns place)
    ≡ fin_get (column_at columns k).values place
find_items n [] place id k e = sym (fin_get-empty nat_cmp place)
find_items n (column ∷ columns) place id zero e = search (rules, cases_eq, find_below, tied, apart)
find_items n (column ∷ columns) place id (suc k) e =
    search (rules, find_items (suc n) columns place id k (omega arith))

pub get_components : (columns : List Column) (place : ℕ) (id : ComponentId)
    → fin_get (components_at columns place) id ≡ value_at columns place id
get_components columns place id = search (rules, fin_get-from_sorted, items_rising, find_items)

pub entries_components : (columns : List Column) (place : ℕ)
    → fin_entries (components_at columns place) ≡ items_from 0 columns place
entries_components columns place =
    fin_entries-from_sorted component_cmp _ (items_rising 0 columns place)

-- ---- components of two places, or before and after a change

pub same_components : (old new : List Column) (p q : ℕ)
    → ((id : ComponentId) → value_at new q id ≡ value_at old p id)
    → components_at new q ≡ components_at old p
same_components old new p q are = fin_same_map total same _ _ (search (rules, get_components))

pub no_components : (columns : List Column) (place : ℕ)
    → ((id : ComponentId) → value_at columns place id ≡ None)
    → components_at columns place ≡ fin_empty
no_components columns place none =
    fin_same_map total same _ _ (search (rules, get_components, fin_get-empty))

-- ---- one column is changed

-- a column with room is one of the list
pub room_inside : (columns : List Column) (n place : ℕ) → HasRoomAt (column_at columns n) place
    → n < length columns
room_inside columns n place room = search (rules, cases_lt, get_or_past, fin_get-empty)

-- so is one with a value
pub value_inside : (columns : List Column) (place : ℕ) (id : ComponentId) (v : ℤ)
    → value_at columns place id ≡ Some v → id.0 < length columns
value_inside columns place id v at = search (rules, cases_lt, none-some, get_or_past, fin_get-empty)

module _ (old new : List Column) (place : ℕ) (id : ComponentId)
    (others : (n : ℕ) → n ≢ id.0 → column_at new n ≡ column_at old n) where
  value_apart : (p : ℕ) (q : ComponentId) → q ≢ id → value_at new p q ≡ value_at old p q
  value_apart p q n = search rules

  -- a value is set at the place
  module _ (v : ℤ)
      (set_to : (column_at new id.0).values ≡ fin_insert (column_at old id.0).values place v) where
    value_set : (q : ComponentId) → (q ≡ id) ⊎ (q ≢ id) → value_at new place q
        ≡ fin_get (fin_insert (components_at old place) id v) q
    value_set q (inl e) =
        let here =
        get-insert_same nat_cmp_total nat_cmp-IsAntisymmetric (column_at old id.0).values place
        v place
        refl in
        grind (arith, get-insert_same total same)
    value_set q (inr n) = grind (arith, value_apart, get_components, get-insert_other total same)

    pub components_insert : components_at new place ≡ fin_insert (components_at old place) id v
    components_insert =
        fin_same_map total same _ _ (search (rules, get_components, value_set, same_or_apart))

    pub insert_others : (p : ℕ) (q : ComponentId) → p ≢ place → value_at new p q ≡ value_at old p q
    insert_others =
        search (rules, get-insert_other, nat_cmp-IsAntisymmetric, same_or_apart, value_apart)

    pub insert_room : (n : ℕ) → HasRoomAt (column_at old n) place
        → HasRoomAt (column_at new n) place
    insert_room n = search (rules, cases_eq, get-insert_same, none-some)

  -- a value is taken out at the place
  module _ (taken : (column_at new id.0).values ≡ fin_remove (column_at old id.0).values place)
    where
      value_taken : (q : ComponentId) → (q ≡ id) ⊎ (q ≢ id)
          → value_at new place q ≡ fin_get (fin_remove (components_at old place) id) q
      value_taken q (inl e) = search (rules, get-remove_same)
      value_taken q (inr n) =
          grind (arith, value_apart, get_components, get-remove_other total same)

      pub components_remove : components_at new place ≡ fin_remove (components_at old place) id
      components_remove =
          fin_same_map total same _ _ (search (rules, get_components, value_taken, same_or_apart))

      pub remove_others : (p : ℕ) (q : ComponentId) → p ≢ place
          → value_at new p q ≡ value_at old p q
      remove_others =
          search (rules, get-remove_other, nat_cmp-IsAntisymmetric, same_or_apart, value_apart)

-- the column at the number is written over
module _ (columns : List Column) (n : ℕ) (was is : Column) (inside : n < length columns)
    (read : was ≡ get_or columns n was) where
  pub column_set : column_at (set columns n is) n ≡ is
  column_set = get_or-set_same columns n is no_column inside

  pub column_kept : (k : ℕ) → k ≢ n → column_at (set columns n is) k ≡ column_at columns k
  column_kept k far = get_or-set_other columns n k is no_column far

-- what is not there stays out
pub taken_none : (columns : List Column) (place : ℕ) (id : ComponentId) → length columns ≤ id.0
    → (value_at columns place id ≡ None)
    × (components_at columns place ≡ fin_remove (components_at columns place) id)
taken_none columns place id l =
    let none : value_at columns place id ≡ None = search (rules, get_or_past, fin_get-empty) in
    (none, sym (remove_absent total same _ _ (get_components columns place id ∙ none)))
