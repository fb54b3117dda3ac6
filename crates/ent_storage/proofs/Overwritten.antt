-- Pairs whose keys strictly rise, after one of them was overwritten or after a test dropped some.
use Rattle.ent_storage.proofs.Common.{rules, common_steps, All, AllPairs, AllPairs-filter, cases_eq}
use Rattle.ent_storage.proofs.Common.{◌≡◌, ◌≢◌, ℕ, zero, suc, ◌<◌, Bool, cond, T, List, [], ◌∷◌}
use Rattle.ent_storage.proofs.Common.{length, get_or, set, filter, ◌+◌, Option, Some, None}
use Rattle.ent_storage.proofs.Common.{Ordering, refl, arith, Less, Equal, Greater, eq_by_cmp}
use Rattle.ent_storage.proofs.Common.{IsTotalOrder, AllWithin, IsAntisymmetric, find, is_sorted}
use Rattle.ent_storage.proofs.Common.{below_all}
use Rattle.ent_storage.proofs.Keys.{apart}
use Rattle.ent_storage.proofs.Positions.{first, second, less, turn, rising_at}
use Rattle.ent_storage.proofs.Rising.{both, equal}

module _ {K X : Type 0} {R : K → K → Ordering} (o : IsTotalOrder R) (same : IsAntisymmetric R) where
  below_all_from : (x : K) (es : List (K × X)) → All (λ e. R x e.0 ≡ Less) es → T (below_all R x es)
  below_all_from x [] all = tt
  below_all_from x (e ∷ es) all =
      search (rules, all zero e, below_all_from x es (λ j d l. all (suc j) d (omega arith)))

  -- keys of which each is below all later ones rise
  sorted_from : (es : List (K × X)) → AllPairs (λ a b. R a.0 b.0 ≡ Less) es → T (is_sorted R es)
  sorted_from [] all = tt
  sorted_from (e ∷ es) all = search (
    rules,
    both,
    below_all_from e.0 es (λ j d l. all zero (suc j) d (omega arith) (omega arith)),
    sorted_from es (λ i j d l m. all (suc i) (suc j) d (omega arith) (omega arith)),
  )

  -- ---- one pair is overwritten
  module _ (k : K) (v : X) where
    -- the keys before are smaller and those after greater, so the keys still rise
    pub is_sorted-set : (es : List (K × X)) (p : ℕ) → T (is_sorted R es) → p < length es
        → AllWithin (λ e. R e.0 k ≡ Less) es 0 p
        → AllWithin (λ e. R e.0 k ≡ Greater) es (p + 1) (length es)
        → T (is_sorted R (set es p (k, v)))
    is_sorted-set es p h l below above = sorted_from (set es p (k, v)) (λ i j d lt m.
        let rises = rising_at o es i j d h lt in
        let turned = turn o (get_or es j d).0 k Greater in
        grind (arith, common_steps, cases_eq i p, cases_eq j p, below i d, above j d))

    -- a key that is neither the new one nor the one overwritten
    pub find-set_other : (es : List (K × X)) (p : ℕ) (q : K) → q ≢ k
        → ((d : K × X) → (get_or es p d).0 ≢ q) → p < length es
        → find R q (set es p (k, v)) ≡ find R q es
    find-set_other [] p q n m l = absurd (omega arith)
    find-set_other (e ∷ es) zero q n m l = search (rules, apart o same, m e)
    find-set_other (e ∷ es) (suc p) q n m l =
        search (rules, find-set_other es p q n m (omega arith))

  -- ---- a test drops some pairs
  module _ (t : K × X → Bool) where
    pub is_sorted-filter : (es : List (K × X)) → T (is_sorted R es) → T (is_sorted R (filter t es))
    is_sorted-filter es h = sorted_from (filter t es)
        (AllPairs-filter (λ a b. R a.0 b.0 ≡ Less) t es (λ i j d l m. rising_at o es i j d h l m))

    find_below : (x q : K) (es : List (K × X)) → R x q ≡ Equal → T (below_all R x es)
        → find R q es ≡ None
    find_below x q [] e h = refl
    find_below x q (d ∷ es) e h =
        let here : R q d.0 ≡ Less = search (rules, less, first) in
        rw here (find_below x q es e (second _ _ h))

    -- what the test leaves of a key's value
    abbrev pub passed : K → Option X → Option X
    passed q None = None
    passed q (Some v) = cond (t (q, v)) (Some v) None

    pub find-filter : (es : List (K × X)) (q : K) → T (is_sorted R es)
        → find R q (filter t es) ≡ passed q (find R q es)
    find-filter [] q h = refl
    find-filter (e ∷ es) q h =
        by (find-filter es q (second _ _ h)) (eq_by_cmp R q e.0) refl (t e) refl
      where
        by : find R q (filter t es) ≡ passed q (find R q es) → (b : Bool) → eq_by_cmp R q e.0 ≡ b
            → (c : Bool) → t e ≡ c → find R q (filter t (e ∷ es)) ≡ passed q (find R q (e ∷ es))
        by rest b tied_is c kept_is = search (rules, find_below, turn, first, equal)
