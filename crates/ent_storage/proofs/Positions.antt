-- Pairs whose keys strictly rise, what a binary search finds among them, and a pair that is put
-- there.
use Rattle.ent_storage.proofs.Common.{rules, ◌≡◌, ℕ, zero, suc, ◌<◌, Bool, true, false, ◌&&◌, T}
use Rattle.ent_storage.proofs.Common.{List, [], ◌∷◌, length, get_or, Result, IfOk, IfErr, Ordering}
use Rattle.ent_storage.proofs.Common.{ap, ◌∙◌, arith, Less, is_lt, ordering_reverse, IsTotalOrder}
use Rattle.ent_storage.proofs.Common.{IsSearchInRange, IsBinarySearchResult, searchable_from_sorted}
use Rattle.ent_storage.proofs.Common.{is_sorted, below_all, IsAt, IsGapFor, common_steps, cases_lt}
use Rattle.ent_storage.proofs.Common.{◌≢◌, ◌≤◌, set, None, refl, Equal, Greater, insert, AllWithin}
use Rattle.ent_storage.proofs.Common.{find, put}

-- what tests tell
pub first : (a b : Bool) → T (a && b) → T a
first true b h = tt
first false b h = absurd h

pub second : (a b : Bool) → T (a && b) → T b
second true b h = h
second false b h = absurd h

pub less : (r : Ordering) → T (is_lt r) → r ≡ Less
less it h = search rules

pub turn : {K : Type 0} {R : K → K → Ordering} (o : IsTotalOrder R) (a b : K) (r : Ordering)
    → R a b ≡ r → R b a ≡ ordering_reverse r
turn o a b r e = o.antisymm b a ∙ ap ordering_reverse e

module _ {K X : Type 0} {R : K → K → Ordering} (o : IsTotalOrder R) where
  -- a key below all of them
  pub below_at : (x : K) (es : List (K × X)) (i : ℕ) (d : K × X) → T (below_all R x es)
      → i < length es → R x (get_or es i d).0 ≡ Less
  below_at x [] i d h l = absurd (omega arith)
  below_at x (e ∷ es) zero d h l = less _ (first _ _ h)
  below_at x (e ∷ es) (suc i) d h l = below_at x es i d (second _ _ h) (omega arith)

  -- an earlier key is below a later one
  pub rising_at : (es : List (K × X)) (i j : ℕ) (d : K × X) → T (is_sorted R es) → i < j
      → j < length es → R (get_or es i d).0 (get_or es j d).0 ≡ Less
  rising_at (e ∷ es) zero (suc j) d h l k = below_at e.0 es j d (first _ _ h) (omega arith)
  rising_at (e ∷ es) (suc i) (suc j) d h l k =
      rising_at es i j d (second _ _ h) (omega arith) (omega arith)
  rising_at es i j d h l k = absurd (omega arith)

  -- a binary search by key ends at the key, or at the gap for it
  pub searched : (es : List (K × X)) (k : K) → T (is_sorted R es) → (r : Result ℕ ℕ)
      → IsSearchInRange r (length es)
      → IsBinarySearchResult (λ e. R e.0 k) es r → record {
        found : IfOk r (IsAt R es k);
        absent : IfErr r
            (IsGapFor R es k);
      }
  searched es k h it l at = search (rules, searchable_from_sorted, turn, rising_at)

-- ---- a pair that is put: over the one that has its key, or in the gap for it

module _ {K X : Type 0} {R : K → K → Ordering} (o : IsTotalOrder R) where
  pub above_head : (k : K) (e : K × X) (es : List (K × X)) (i : ℕ) (d : K × X)
      → T (is_sorted R (e ∷ es)) → i < length es → R (get_or es i d).0 k ≡ Equal → R k e.0 ≡ Greater
  above_head k e es i d h l t = search (rules, turn, below_at, first)

  find_none : (es : List (K × X)) (k : K)
      → ((j : ℕ) (d : K × X) → j < length es → R k (get_or es j d).0 ≢ Equal) → find R k es ≡ None
  find_none [] k none = refl
  find_none (e ∷ es) k none =
      grind (
        arith,
        common_steps,
        none zero e (omega arith),
        find_none es k (λ j d l. none (suc j) d (omega arith)),
      )

  put_between : (es : List (K × X)) (k : K) (v : X) (i : ℕ) → i ≤ length es
      → AllWithin (λ e. R e.0 k ≡ Less) es 0 i → AllWithin (λ e. R e.0 k ≡ Greater) es i (length es)
      → put R k v es ≡ insert es i (k, v)
  put_between [] k v zero l below above = refl
  put_between [] k v (suc i) l below above = absurd (omega arith)
  put_between (e ∷ es) k v zero l below above =
      search (rules, turn, above zero e (omega arith) (omega arith))
  put_between (e ∷ es) k v (suc i) l below above = search (
    rules,
    turn o e.0 k Less (below zero e (omega arith) (omega arith)),
    put_between es k v i (omega arith) (λ j d low high. below (suc j) d (omega arith) (omega arith))
        (λ j d low high. above (suc j) d (omega arith) (omega arith)),
  )

  put_tied : (es : List (K × X)) (k : K) (v : X) (i : ℕ) (d : K × X) → T (is_sorted R es)
      → i < length es → R (get_or es i d).0 k ≡ Equal
      → put R k v es ≡ set es i ((get_or es i d).0, v)
  put_tied [] k v i d h l t = absurd (omega arith)
  put_tied (e ∷ es) k v zero d h l t = rw (turn o e.0 k Equal t)
  put_tied (e ∷ es) k v (suc i) d h l t = rw (above_head k e es i d h (omega arith) t)
      (ap (λ fs. e ∷ fs) (put_tied es k v i d (second _ _ h) (omega arith) t))

  -- a key that is nowhere is not found
  pub find_in_gap : (es : List (K × X)) (k : K) (i : ℕ) → IsGapFor R es k i → find R k es ≡ None
  find_in_gap es k i gap = search (rules, find_none, cases_lt, turn)

  -- What is written over the pair that has the key: that pair keeps its own key.
  pub written : (es : List (K × X)) (k : K) (v : X) (i : ℕ) (d e : K × X) (w : X)
      → T (is_sorted R es) → IsAt R es k i → e ≡ get_or es i d → w ≡ v
      → set es i (e.0, w) ≡ put R k v es
  written es k v i d e w rising at here same = search (rules, put_tied)

  -- what is inserted in the gap
  pub inserted : (es : List (K × X)) (k : K) (v : X) (i : ℕ) (w : X) → IsGapFor R es k i → w ≡ v
      → insert es i (k, w) ≡ put R k v es
  inserted es k v i w gap same = search (rules, put_between)
