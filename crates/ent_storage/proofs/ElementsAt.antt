-- The elements of a list by their positions, after each change, and the first pair of a key.
use Rattle.ent_storage.proofs.Common.{mapped, slice_get-map, length-map, rules, common_steps}
use Rattle.ent_storage.proofs.Common.{some_pair_parts, eq_by_cmp, ◌≡◌, ◌≢◌, ℕ, Ordering, zero, suc}
use Rattle.ent_storage.proofs.Common.{◌<◌, ◌≤◌, cond, ◌⊎◌, inl, inr, List, [], ◌∷◌, ◌++◌, length}
use Rattle.ent_storage.proofs.Common.{set, Option, Some, None, slice_get, refl, sym, ◌∙◌, arith}
use Rattle.ent_storage.proofs.Common.{get_or, ◌+◌, ◌-◌, same_Some, none-some, slice_get-get_or}
use Rattle.ent_storage.proofs.Common.{slice_get_past, slice_get_within, IsTotalOrder, find}
use Rattle.ent_storage.proofs.Common.{IsAntisymmetric, cases_lt, cases_eq, get_or-set_same}
use Rattle.ent_storage.proofs.Common.{get_or-set_other, length-set, get_or_append_left, get_or_push}
use Rattle.ent_storage.proofs.Common.{length_push, fin_from_entries, fin_get, fin_get-from_entries}
use Rattle.ent_storage.proofs.Common.{fin_get-insert, fin_insert, fin_len, fin_len-empty}
use Rattle.ent_storage.proofs.Common.{fin_len-insert, fin_remove, fin_same_map}
use Rattle.ent_storage.proofs.Keys.{none_from, apart, same_or_apart, tied, get-remove_same}
use Rattle.ent_storage.proofs.Keys.{get-remove_other, remove_tells}

-- ---- elements by their positions

pub at_set_same : {X : Type 0} (xs : List X) (i : ℕ) (y : X) → i < length xs
    → slice_get (set xs i y) i ≡ Some y
at_set_same xs i y l =
    search (rules, slice_get-get_or (set xs i y) i y, get_or-set_same, length-set)

pub at_set_other : {X : Type 0} (xs : List X) (i j : ℕ) (y : X) → j ≢ i
    → slice_get (set xs i y) j ≡ slice_get xs j
at_set_other xs i j y n = search (
  rules,
  cases_lt j (length xs),
  slice_get_past,
  slice_get-get_or xs j y,
  slice_get-get_or (set xs i y) j y,
  get_or-set_other,
  length-set,
)

-- what stands in a list of pairs after a `set`
pub ruleset at_set = (cases_eq, some_pair_parts, at_set_same, at_set_other)

pub at_push_before : {X : Type 0} (xs : List X) (y : X) (k : ℕ) → k < length xs
    → slice_get (xs ++ y ∷ []) k ≡ slice_get xs k
at_push_before xs y k l =
    let old = slice_get-get_or xs k y l in
    search (rules, slice_get-get_or (xs ++ y ∷ []) k y, get_or_append_left, length_push)

pub at_push_end : {X : Type 0} (xs : List X) (y : X) (k : ℕ) → length xs ≤ k → (z : X)
    → slice_get (xs ++ y ∷ []) k ≡ Some z → (k ≡ length xs) × (y ≡ z)
at_push_end [] y zero l z e = (refl, same_Some _ _ e)
at_push_end [] y (suc k) l z e = absurd (none-some z e)
at_push_end (x ∷ xs) y zero l z e = absurd (omega arith)
at_push_end (x ∷ xs) y (suc k) l z e = search (rules, at_push_end xs y k (omega arith) z e)

pub at_pushed : {X : Type 0} (xs : List X) (y : X) → slice_get (xs ++ y ∷ []) (length xs) ≡ Some y
at_pushed xs y =
    search (rules, slice_get-get_or (xs ++ y ∷ []) (length xs) y, get_or_push, length_push)

pub same_option : {X : Type 0} (a b : Option X) → ((v : X) → a ≡ Some v → b ≡ Some v)
    → ((v : X) → b ≡ Some v → a ≡ Some v) → a ≡ b
same_option a b f g = search rules

-- ---- an element is taken out, and the last one moves to its position

-- the list without the element at position i, which the last one has filled
pub record IsFilled {X : Type 0} (D : List X) (i : ℕ) (L : List X) : Type 0 where
  pub one_less : length L + 1 ≡ length D
  pub others : (k : ℕ) → k ≢ i → k < length L → slice_get L k ≡ slice_get D k
  pub moved : i < length L → slice_get L i ≡ slice_get D (length L)

pub filled_map : {X Y : Type 0} (f : X → Y) (D L : List X) (i : ℕ) → IsFilled D i L
    → IsFilled (mapped f D) i (mapped f L)
filled_map f D L i rest = search (rules, length-map, slice_get-map)

-- what a vector's removal by swapping gives
pub filled : {X : Type 0} (D L : List X) (i n m : ℕ) (d : X) → n ≡ length D → m ≡ length L
    → m + 1 ≡ n → ((d : X) → i + 1 < n → get_or L i d ≡ get_or D (n - 1) d)
    × ((k : ℕ) (d : X) → k ≢ i → k + 1 < n → get_or L k d ≡ get_or D k d) → IsFilled D i L
filled D L i n m d whole left one_less by_index = record {
  one_less = omega arith;
  others =
      λ k apart l.
      search (rules, arith, by_index.1 k d, slice_get-get_or L k d, slice_get-get_or D k d);
  moved = λ l.
      let last : n - 1 ≡ length L = omega arith in
      search (rules, arith, by_index.0 d, slice_get-get_or L i d, slice_get-get_or D (length L) d);
}

-- ---- a scan from the front

-- the list has each key once
abbrev pub IsOnce : {K X : Type 0} → List (K × X) → Type 0
IsOnce {K} {X} D = (j k : ℕ) (p : K) (v w : X) → slice_get D j ≡ Some (p, v)
    → slice_get D k ≡ Some (p, w) → j ≡ k

module _ {K X : Type 0} {R : K → K → Ordering} (total : IsTotalOrder R)
    (same : IsAntisymmetric R) where
  pub find_at : (D : List (K × X)) (k : ℕ) (p : K) (v : X) → slice_get D k ≡ Some (p, v)
      → ((j : ℕ) (w : X) → j < k → slice_get D j ≢ Some (p, w)) → find R p D ≡ Some v
  find_at [] k p v e first = absurd (none-some (p, v) e)
  find_at (x ∷ D) zero p v e first = search (rules, same_Some, tied)
  find_at (x ∷ D) (suc k) p v e first =
      search (
        rules,
        same_or_apart total same p x.0,
        apart,
        first 0 x.1,
        find_at D k p v e (λ j w l. first (suc j) w (omega arith)),
      )

  pub find_gives : (D : List (K × X)) (p : K) (v : X) → find R p D ≡ Some v
      → (k : ℕ) × (slice_get D k ≡ Some (p, v))
  find_gives [] p v e = absurd (none-some v e)
  find_gives (x ∷ D) p v e = elim (same_or_apart total same p x.0) [
    | inl q ↦ search (rules, same_Some, tied)
    | inr n ↦ let later = find_gives D p v (rw (apart total same p x.0 n) at e) in
        (suc later.0, later.1)
  ]

  -- ---- a list that has each key once, as a map

  pub entry_at : (D : List (K × X)) (p : K) (v : X)
      → fin_get (fin_from_entries {R = R} D) p ≡ Some v → (k : ℕ) × (slice_get D k ≡ Some (p, v))
  entry_at D p v e = find_gives D p v (sym (fin_get-from_entries total D p) ∙ e)

  pub nowhere : (D : List (K × X)) (p : K) → ((k : ℕ) (v : X) → slice_get D k ≢ Some (p, v))
      → fin_get (fin_from_entries {R = R} D) p ≡ None
  nowhere D p none = none_from _ (λ v e. let at = entry_at D p v e in none at.0 v at.1)

  -- it has as many entries as its map
  pub len_once : (D : List (K × X)) → IsOnce D → fin_len (fin_from_entries {R = R} D) ≡ length D
  len_once [] once = fin_len-empty R X
  len_once (e ∷ D) once =
      let rest = len_once D (λ j k h v w a b. omega (arith, once (suc j) (suc k) h v w a b)) in
      grind (
        arith,
        common_steps,
        fin_len-insert total (fin_from_entries D) e.0 e.1,
        nowhere D e.0 (λ k v at. omega (arith, once (suc k) zero e.0 v e.1 at refl)),
      )

  find_set : (D : List (K × X)) (i : ℕ) (p : K) (u v : X) → slice_get D i ≡ Some (p, u)
      → ((j : ℕ) (w : X) → j < i → slice_get D j ≢ Some (p, w)) → (q : K)
      → find R q (set D i (p, v)) ≡ cond (eq_by_cmp R q p) (Some v) (find R q D)
  find_set [] i p u v e first q = absurd (none-some _ e)
  find_set (x ∷ D) zero p u v e first q = let is = some_pair_parts _ _ _ _ e in
      grind (arith, common_steps)
  find_set (x ∷ D) (suc i) p u v e first q =
      search (
        rules,
        same_or_apart,
        tied,
        apart,
        first 0 x.1,
        find_set D i p u v e (λ j w l. first (suc j) w (omega arith)) q,
      )

  pub has_entry : (D : List (K × X)) → IsOnce D → (k : ℕ) (p : K) (v : X)
      → slice_get D k ≡ Some (p, v) → fin_get (fin_from_entries {R = R} D) p ≡ Some v
  has_entry D once k p v e = search (rules, fin_get-from_entries, find_at, once)

  module _ (D : List (K × X)) (once : IsOnce D) (i : ℕ) (p : K) (u : X)
      (here : slice_get D i ≡ Some (p, u)) where
    -- its value is written over
    pub values_set : (v : X) → fin_from_entries {R = R} (set D i (p, v))
        ≡ fin_insert (fin_from_entries D) p v
    values_set v =
        fin_same_map total same _ _
        (λ q.
        search (
          rules,
          fin_get-from_entries,
          fin_get-insert,
          find_set D i p u v here (λ j w l at. omega (arith, once j i p w u at here)) q,
        ))

    -- it is taken out, and the last one moves to its position
    module _ (L : List (K × X)) (left_once : IsOnce L) (rest : IsFilled D i L) where
      taken_there : (q : K) (w : X) → fin_get (fin_from_entries {R = R} L) q ≡ Some w
          → fin_get (fin_remove (fin_from_entries {R = R} D) p) q ≡ Some w
      taken_there q w found =
          search (rules, entry_at, has_entry, remove_tells, cases_eq, slice_get_within)

      taken_back : (q : K) (w : X) → (q ≡ p) ⊎ (q ≢ p)
          → fin_get (fin_remove (fin_from_entries {R = R} D) p) q ≡ Some w
          → fin_get (fin_from_entries {R = R} L) q ≡ Some w
      taken_back q w (inl e) found = search (rules, none-some, get-remove_same)
      taken_back q w (inr n) found =
          search (
            rules,
            entry_at,
            get-remove_other,
            some_pair_parts,
            slice_get_within,
            has_entry,
            cases_lt,
          )

      pub values_taken : fin_from_entries {R = R} L ≡ fin_remove (fin_from_entries D) p
      values_taken =
          search (rules, fin_same_map, same_option, taken_there, taken_back, same_or_apart)
