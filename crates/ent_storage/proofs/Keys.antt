-- Keys of a map that are the same or apart, and what a map has at them after a change.
use Rattle.ent_storage.proofs.Common.{All-map, All-contains, [], ◌∷◌, Option, is_some, false≢true}
use Rattle.ent_storage.proofs.Common.{◌≡◌, ◌≢◌, Bool, true, false, ◌⊎◌, Some, None, Ordering, refl}
use Rattle.ent_storage.proofs.Common.{rules, arith, eq_by_cmp, IsTotalOrder, false_from_ne_true}
use Rattle.ent_storage.proofs.Common.{FinMap, IsAntisymmetric, ℕ, ◌<◌, ◌≤◌, List, length, mapped}
use Rattle.ent_storage.proofs.Common.{All, AllPairs, eqb, eqb-true, get_or-map, length-map}
use Rattle.ent_storage.proofs.Common.{length-le_from_distinct_below, IsDistinct-from_apart}
use Rattle.ent_storage.proofs.Common.{Contains-from_any, fin_get, fin_get-insert, fin_get-remove}
use Rattle.ent_storage.proofs.Common.{fin_insert, fin_remove, fin_same_map}
use Rattle.ent_storage.proofs.Rising.{equal}

pub some_value : {X : Type 0} (o : Option X) → is_some o ≡ true → (v : X) × (o ≡ Some v)
some_value o e = search (rules, false≢true)

pub none_from : {X : Type 0} (o : Option X) → ((v : X) → o ≡ Some v → ⊥) → o ≡ None
none_from o never = search rules

module _ {K : Type 0} {R : K → K → Ordering} (o : IsTotalOrder R) (same : IsAntisymmetric R) where
  pub tied : (a b : K) → a ≡ b → eq_by_cmp R a b ≡ true
  tied a b e = search rules

  pub apart : (a b : K) → a ≢ b → eq_by_cmp R a b ≡ false
  apart a b n = search (rules, false_from_ne_true, equal)

  by_test : (a b : K) (t : Bool) → eq_by_cmp R a b ≡ t → (a ≡ b) ⊎ (a ≢ b)
  by_test a b t e = search (rules, equal, tied)

  pub same_or_apart : (a b : K) → (a ≡ b) ⊎ (a ≢ b)
  same_or_apart a b = by_test a b _ refl

  module _ {X : Type 0} (m : FinMap R X) (k : K) where
    pub get-insert_same : (v : X) (q : K) → q ≡ k → fin_get (fin_insert m k v) q ≡ Some v
    get-insert_same v q e = search (rules, fin_get-insert o m k v q, tied q k e)

    pub get-insert_other : (v : X) (q : K) → q ≢ k → fin_get (fin_insert m k v) q ≡ fin_get m q
    get-insert_other v q n = search (rules, fin_get-insert o m k v q, apart q k n)

    -- both, for `grind`
    pub insert_tells : (v : X) (q : K) → ((q ≡ k) × (fin_get (fin_insert m k v) q ≡ Some v))
        ⊎ ((q ≢ k) × (fin_get (fin_insert m k v) q ≡ fin_get m q))
    insert_tells v q = search (rules, same_or_apart q k, get-insert_same, get-insert_other)

    pub get-remove_same : (q : K) → q ≡ k → fin_get (fin_remove m k) q ≡ None
    get-remove_same q e = search (rules, fin_get-remove o m k q, tied q k e)

    pub get-remove_other : (q : K) → q ≢ k → fin_get (fin_remove m k) q ≡ fin_get m q
    get-remove_other q n = search (rules, fin_get-remove o m k q, apart q k n)

    pub remove_tells : (q : K) → ((q ≡ k) × (fin_get (fin_remove m k) q ≡ None))
        ⊎ ((q ≢ k) × (fin_get (fin_remove m k) q ≡ fin_get m q))
    remove_tells q = search (rules, same_or_apart q k, get-remove_same, get-remove_other)

    -- what is not there stays out
    pub remove_absent : fin_get m k ≡ None → fin_remove m k ≡ m
    remove_absent none = fin_same_map o same _ _ (λ q. grind (arith, remove_tells q))

-- what holds of the images of each two elements
pub AllPairs-map : {X Y : Type 0} (R : Y → Y → Type 0) (f : X → Y) (xs : List X)
    → AllPairs (λ a b. R (f a) (f b)) xs → AllPairs R (mapped f xs)
AllPairs-map R f [] all i j d l k = absurd (omega (arith, k))
AllPairs-map R f (x ∷ xs) all i j d l k =
    let below : j < length (x ∷ xs) = omega (arith, length-map (x ∷ xs) f, k) in
    rw (get_or-map f (x ∷ xs) i x d (omega arith), get_or-map f (x ∷ xs) j x d below)
    (all i j x l below)

-- elements with numbers that are apart, all below n, are no more than n
pub few_apart : {X : Type 0} (f : X → ℕ) (xs : List X) (n : ℕ) → AllPairs (λ a b. f a ≢ f b) xs
    → All (λ a. f a < n) xs → length xs ≤ n
few_apart f xs n apart below =
    let most =
    length-le_from_distinct_below (mapped f xs) n
    (IsDistinct-from_apart eqb _ (λ i j d l k. search
    (rules, false_from_ne_true, eqb-true, AllPairs-map (λ a b. a ≢ b) f xs apart i j d l k))) (λ q
    any. All-contains
    (λ a. a < n) _ q (All-map (λ a. a < n) f xs below) (Contains-from_any eqb-true q _ any)) in
    omega (arith, most, length-map xs f)
