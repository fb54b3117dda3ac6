-- What a storage takes over from another one, and its copies.
use Rattle.ent_storage.proofs.Common.{rules, ◌≡◌, ◌≢◌, ℕ, ℤ, zero, suc, ◌+◌, ◌<◌, ◌≤◌, Bool, List}
use Rattle.ent_storage.proofs.Common.{[], ◌∷◌, length, filter, take, get_or, set, refl, ap, sym}
use Rattle.ent_storage.proofs.Common.{◌∙◌, arith, inl, inr, None, common_steps, none-some, cases_lt}
use Rattle.ent_storage.proofs.Common.{cases_eq, get_or-set_same, get_or-set_other, All, nat_cmp}
use Rattle.ent_storage.proofs.Common.{component_cmp, Handle, handle_cmp, ComponentId, Resident}
use Rattle.ent_storage.proofs.Common.{AreBare, map_of, entity_of, IsIndexed, LivingEntity}
use Rattle.ent_storage.proofs.Common.{column_at, value_at, entities_from, AreColumnsOf, Column}
use Rattle.ent_storage.proofs.Common.{Values, IsDense, HasRoomFor, Fits, no_column, FinMap}
use Rattle.ent_storage.proofs.Common.{fin_empty, fin_from_entries, fin_get, fin_get-empty}
use Rattle.ent_storage.proofs.Common.{fin_same_map, nat_cmp_total as total}
use Rattle.ent_storage.proofs.Common.{nat_cmp-IsAntisymmetric as same, slice_get_within, AllZip}
use Rattle.ent_storage.proofs.Common.{length_all_zip, IsCopy, AreInUse}
use Rattle.ent_storage.proofs.ColumnsAtPlaces.{get_components}
use Rattle.ent_storage.proofs.Dense.{has}
use Rattle.ent_storage.proofs.EntitiesOfResidents.{at_from, length_from, same_from}
use Rattle.ent_storage.proofs.Indexed.{get_placed, some_entity}
use Rattle.ent_storage.proofs.InUse.{in_use_changed}

-- a dense vector of some pairs stands for some values
pub some_values : (dense : List (ℕ × ℤ)) (sparse : List ℕ) → IsDense dense sparse → length dense ≢ 0
    → fin_from_entries {R = nat_cmp} dense ≢ fin_empty
some_values [] sparse is more none = more refl
some_values ((p, v) ∷ dense) sparse is more none = search
    (rules, none-some, fin_get-empty, has ((p, v) ∷ dense) sparse is 0 p v refl)

pub fits : (column source : Column) → HasRoomFor column source → source.values ≢ fin_empty
    → Fits column source
fits column source (inl none) some = absurd (some none)
fits column source (inr vectors) some = vectors

-- a column has got more room
pub room_kept : (columns : List Column) (number : ℕ) (is : Column) → number < length columns
    → ((c : Column) → HasRoomFor (column_at columns number) c → HasRoomFor is c)
    → (other : ℕ) (c : Column) → HasRoomFor (column_at columns other) c
    → HasRoomFor (column_at (set columns number is) other) c
room_kept columns number is inside kept other c room = search (
  rules,
  cases_eq other number,
  get_or-set_same columns number is no_column inside,
  get_or-set_other columns number other is no_column,
  kept c,
)

-- columns with the same values
module _ (old new : List Column)
    (values : (n : ℕ) → (column_at new n).values ≡ (column_at old n).values) where
  same_value : (p : ℕ) (id : ComponentId) → value_at new p id ≡ value_at old p id
  same_value p id = ap (λ (m : Values). fin_get m p) (values id.0)

  pub entities_same : (residents : List Resident)
      → entities_from 0 residents new ≡ entities_from 0 residents old
  entities_same residents = search (rules, same_from, values)

-- ---- entities without components

unused : Handle
unused = record { index = 0; generation = 0 }

-- their columns have no values
pub bare_columns : (residents : List Resident) (columns : List Column)
    → AreColumnsOf (length residents) columns
    → All (λ entity. entity.components ≡ fin_empty) (entities_from 0 residents columns) → (n : ℕ)
    → (column_at columns n).values ≡ fin_empty
bare_columns residents columns are bare n =
    fin_same_map total same _ _ (λ p. none p ∙ sym (fin_get-empty nat_cmp p))
  where
    none : (p : ℕ) → value_at columns p (record { 0 = n }) ≡ None
    none p = elim (cases_lt p (length residents)) [
      | inl l ↦
          let same : 0 + p ≡ p = omega arith in
          let is = rw (at_from 0 residents columns p (some_entity unused) l, same) at
          (bare p (some_entity unused) (omega (arith, l, length_from 0 residents columns))) in
          rw (← get_components columns p (record { 0 = n }), is) (fin_get-empty component_cmp _)
      | inr beyond ↦ are.none_beyond p (record { 0 = n }) beyond
    ]

-- the list has none, if the map has none
pub bare_list : (living : List LivingEntity) (index : FinMap handle_cmp ℕ) → IsIndexed living index
    → AreBare (map_of living) → All (λ entity. entity.components ≡ fin_empty) living
bare_list living index indexed bare i d l =
    bare (get_or living i d).handle (entity_of (get_or living i d))
    (get_placed living index indexed (get_or living i d).handle i d (indexed.each_entity i l d))

-- the first pairs of an index
pub first_fit : {X : Type 0} (p : X → Bool) (xs : List X) (i : ℕ)
    → length (filter p (take i xs)) ≤ length (filter p xs)
first_fit p xs zero = omega arith
first_fit p [] (suc i) = omega arith
first_fit p (x ∷ xs) (suc i) = grind (arith, common_steps, first_fit p xs i)

-- ---- copies of columns, and the entities that they stand for

-- without room for a place there are no values
pub no_places : (dense : List (ℕ × ℤ)) (sparse : List ℕ) → IsDense dense sparse → length sparse ≡ 0
    → fin_from_entries {R = nat_cmp} dense ≡ fin_empty
no_places [] sparse is none = refl
no_places ((p, v) ∷ dense) sparse is none =
    absurd (omega (arith, slice_get_within _ p 0 (is.entry 0 p v refl), none))

pub copy_at : (old new : List Column) → AllZip IsCopy old new → (number : ℕ)
    → IsCopy (column_at old number) (column_at new number)
copy_at [] [] all number = record { values = refl; none = λ e. e }
copy_at (a ∷ old) (b ∷ new) all zero = all.0
copy_at (a ∷ old) (b ∷ new) all (suc number) = copy_at old new all.1 number
copy_at old new all number = absurd all

module _ (old new : List Column) (all : AllZip IsCopy old new) where
  pub entities_copied : (residents : List Resident)
      → entities_from 0 residents new ≡ entities_from 0 residents old
  entities_copied residents = search (rules, same_from, copy_at)

  pub columns_copied : (count : ℕ) → AreColumnsOf count old → AreColumnsOf count new
  columns_copied count are = search (rules, length_all_zip, copy_at)

  pub in_use_copied : (used : List ℕ) → AreInUse used old → AreInUse used new
  in_use_copied used =
      let longer : length old ≤ length new = omega (arith, length_all_zip IsCopy old new all) in
      in_use_changed used old new longer (λ n none. inr ((copy_at old new all n).none none))
