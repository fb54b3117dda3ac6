-- The dense and the sparse vector of a component: what they stand for, after each change.
use Rattle.ent_storage.proofs.Common.{rules, ◌≡◌, ◌≢◌, ℕ, ℤ, ◌+◌, ◌<◌, ◌≤◌, false, List, [], ◌∷◌}
use Rattle.ent_storage.proofs.Common.{◌++◌, length, set, get_or, Some, None, slice_get, sym, ◌∙◌}
use Rattle.ent_storage.proofs.Common.{arith, ltb, lt-ltb, same_Some, some_pair_parts}
use Rattle.ent_storage.proofs.Common.{slice_get_within, none-some, slice_get-get_or, false≢true}
use Rattle.ent_storage.proofs.Common.{cases_lt, nat_cmp, Values, IsDense, IsMovedDown}
use Rattle.ent_storage.proofs.Common.{fin_from_entries, fin_from_entries_push, fin_get}
use Rattle.ent_storage.proofs.Common.{fin_get-from_entries, fin_insert, fin_remove}
use Rattle.ent_storage.proofs.Common.{nat_cmp_total as total, nat_cmp-IsAntisymmetric as same}
use Rattle.ent_storage.proofs.Keys.{remove_tells, remove_absent}
use Rattle.ent_storage.proofs.ElementsAt.{at_set, at_set_same, at_set_other, at_push_before}
use Rattle.ent_storage.proofs.ElementsAt.{at_push_end, same_option, IsFilled, entry_at, has_entry}
use Rattle.ent_storage.proofs.ElementsAt.{values_set, values_taken}

-- ---- what the vectors stand for

module _ (D : List (ℕ × ℤ)) (S : List ℕ) (dense : IsDense D S) where
  pub once : (j k p : ℕ) (v w : ℤ) → slice_get D j ≡ Some (p, v) → slice_get D k ≡ Some (p, w)
      → j ≡ k
  once j k p v w a b = search (rules, same_Some)

  pub has : (k p : ℕ) (v : ℤ) → slice_get D k ≡ Some (p, v)
      → fin_get (fin_from_entries {R = nat_cmp} D) p ≡ Some v
  has k p v e = has_entry total same D once k p v e

  pub at : (p : ℕ) (v : ℤ) → fin_get (fin_from_entries {R = nat_cmp} D) p ≡ Some v
      → (k : ℕ) × (slice_get D k ≡ Some (p, v))
  at p v e = entry_at total same D p v e

  -- a place of which the sparse vector has no entry that counts has no value
  pub missing : (p : ℕ) → ((k : ℕ) (v : ℤ) → slice_get S p ≡ Some k → slice_get D k ≢ Some (p, v))
      → fin_get (fin_from_entries {R = nat_cmp} D) p ≡ None
  missing p nowhere = search (rules, same_option, at, none-some)

module _ (D : List (ℕ × ℤ)) (S : List ℕ) (dense : IsDense D S) where
  -- the value of a place is written over
  pub over_values : (i p : ℕ) (u v : ℤ) → slice_get D i ≡ Some (p, u)
      → fin_from_entries {R = nat_cmp} (set D i (p, v))
      ≡ fin_insert (fin_from_entries {R = nat_cmp} D) p v
  over_values i p u v here = values_set total same D (once D S dense) i p u here v

  -- ---- a place that has none gets a value
  module _ (p : ℕ) (v : ℤ) (none : fin_get (fin_from_entries {R = nat_cmp} D) p ≡ None)
      (room : p < length S) where
    pub pushed_dense : IsDense (D ++ (p, v) ∷ []) (set S p (length D))
    pushed_dense =
        search
        (rules, cases_lt, at_push_before, none-some, has, at_set_other, at_push_end, at_set_same)

    pub pushed_values : fin_from_entries {R = nat_cmp} (D ++ (p, v) ∷ [])
        ≡ fin_insert (fin_from_entries {R = nat_cmp} D) p v
    pushed_values =
        fin_from_entries_push total same D p v (sym (fin_get-from_entries total D p) ∙ none)

  -- ---- a pair is taken out, and the last one moves to its position
  module _ (i p : ℕ) (u : ℤ) (here : slice_get D i ≡ Some (p, u)) (L : List (ℕ × ℤ))
      (rest : IsFilled D i L) where
    pub removed_values : (S2 : List ℕ) → IsDense L S2 → fin_from_entries {R = nat_cmp} L
        ≡ fin_remove (fin_from_entries {R = nat_cmp} D) p
    removed_values S2 dense2 =
        values_taken total same D (once D S dense) i p u here L (once L S2 dense2) rest

    -- the last pair itself
    pub popped_dense : length L ≤ i → IsDense L S
    popped_dense g = search (rules, slice_get_within)

    -- another one: the sparse vector has the new position of the last
    module _ (m : ℕ) (x : ℤ) (read : slice_get L i ≡ Some (m, x)) where
      pub in_sparse : m < length S
      in_sparse = search (rules, slice_get_within)

      pub refilled_dense : IsDense L (set S m i)
      refilled_dense = search (rules, at_set, in_sparse, slice_get_within, once)

  -- ---- a value gets another place
  module _ (i p t : ℕ) (u : ℤ) (here : slice_get D i ≡ Some (p, u))
      (free : fin_get (fin_from_entries {R = nat_cmp} D) t
      ≡ None) (below : t < p) where
    pub place_inside : p < length S
    place_inside = slice_get_within S p i (dense.entry i p u here)

    pub renamed_dense : IsDense (set D i (t, u)) (set S t i)
    renamed_dense = search (rules, at_set, slice_get_within, place_inside, none-some, has)

    renamed_back : (q : ℕ) (w : ℤ) → q ≢ p → fin_get (fin_from_entries {R = nat_cmp} D) q ≡ Some w
        → fin_get (fin_from_entries {R = nat_cmp} (set D i (t, u))) q ≡ Some w
    renamed_back q w n found = search (rules, at, some_pair_parts, has, renamed_dense, at_set_other)

    pub renamed_values : IsMovedDown t p (fin_from_entries {R = nat_cmp} D)
        (fin_from_entries {R = nat_cmp} (set D i (t, u)))
    renamed_values = search (
      rules,
      at_set,
      has,
      renamed_dense,
      slice_get_within,
      same_option,
      none-some,
      renamed_back,
      at,
      once,
    )

-- ---- what a read of a pair says

pub pair_here : (D lent : List (ℕ × ℤ)) (i p : ℕ) → lent ≡ D → i < length lent
    → ((d : ℕ × ℤ) → (get_or lent i d).0 ≡ p) → (x : ℕ × ℤ)
    → slice_get D i ≡ Some (p, (get_or D i x).1)
pair_here D lent i p whole l is x = search (rules, slice_get-get_or)

pub not_past : (i n : ℕ) → i < n → false ≡ ltb i n → ⊥
not_past i n l e = false≢true (e ∙ lt-ltb i n l)

pub removed_none : (m : Values) (p : ℕ) → fin_get m p ≡ None → m ≡ fin_remove m p
removed_none m p none = sym (remove_absent total same m p none)

-- a value is taken out, and then the last one moves
pub moved_down : (place last : ℕ) (old less new : Values) → less ≡ fin_remove old place
    → place < last → IsMovedDown place last less new → IsMovedDown place last old new
moved_down place last old less new is below down = search (rules, remove_tells total same)

-- the place was the last
pub removed_last : (place last : ℕ) (old less : Values) → less ≡ fin_remove old place → place ≡ last
    → IsMovedDown place last old less
removed_last place last old less is e = search (rules, arith, remove_tells total same old place)
