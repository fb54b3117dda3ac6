-- Sums over lists of which one element changes, and over lists of lists.
use Rattle.ent_shared.proofs.Common.{common_steps, rules, ◌≡◌, ℕ, zero, suc, ◌+◌, List, [], ◌∷◌}
use Rattle.ent_shared.proofs.Common.{set, sym, refl, subst, arith, length, sum_by, All, All-head}
use Rattle.ent_shared.proofs.Common.{All-tail, All-nil, All-cons, All-append, sum_by-cons}
use Rattle.ent_shared.proofs.Common.{sum_by-append, some, some-injective, some-ne-none, get_elem?}
use Rattle.ent_shared.proofs.Common.{flat_map}

module _ {X : Type 0} where
  pub all_one : (P : X → Type 0) (x : X) → P x → All P (x ∷ [])
  all_one P x p = All-cons P x [] p (All-nil P)

  pub sum_at : (f : X → ℕ) (xs : List X) (i : ℕ) (v w : X) → get_elem? xs i ≡ some v
      → sum_by f (set xs i w) + f v ≡ sum_by f xs + f w
  sum_at f [] i v w e = absurd (some-ne-none v (sym e))
  sum_at f (x ∷ xs) zero v w e = search (rules, some-injective, sum_by-cons)
  sum_at f (x ∷ xs) (suc i) v w e = search (rules, sum_by-cons, sum_at f xs i v w e)

  pub all_at : (P : X → Type 0) (xs : List X) (i : ℕ) (v : X) → get_elem? xs i ≡ some v → All P xs
      → P v
  all_at P [] i v e all = absurd (some-ne-none v (sym e))
  all_at P (x ∷ xs) zero v e all = subst P (some-injective x v e) (All-head P x xs all)
  all_at P (x ∷ xs) (suc i) v e all = all_at P xs i v e (All-tail P x xs all)

  all_zero : (f g : X → ℕ) → ((x : X) → f x ≡ 0 → g x ≡ 0) → (xs : List X) → sum_by f xs ≡ 0
      → sum_by g xs ≡ 0
  all_zero f g zeros [] is = refl
  all_zero f g zeros (x ∷ xs) is =
      grind (arith, common_steps, sum_by-cons, zeros x, all_zero f g zeros xs)

  -- where only the element at i weighs anything, all weigh what it weighs
  only_at : (f g : X → ℕ) (xs : List X) (i : ℕ) (v nothing : X) → get_elem? xs i ≡ some v
      → f nothing ≡ 0 → g nothing ≡ 0 → ((x : X) → f x ≡ 0 → g x ≡ 0) → sum_by f xs ≡ f v
      → sum_by g xs ≡ g v
  only_at f g xs i v nothing e f_none g_none zeros is = grind
      (arith, common_steps, sum_at, all_zero f g zeros (set xs i nothing))

-- where one of the lists has as many elements as all together, all weigh what it weighs
pub whole_weighs : {X : Type 0} (f : X → ℕ) (xss : List (List X)) (i : ℕ) (v : List X)
    → get_elem? xss i ≡ some v → sum_by length xss ≡ length v
    → sum_by (λ (xs : List X). sum_by f xs) xss ≡ sum_by f v
whole_weighs f xss i v at whole =
    only_at length _ xss i v [] at refl refl (grind (arith, common_steps)) whole

module _ {X Y : Type 0} (g : X → List Y) where
  pub sum_by-flat_map : (f : Y → ℕ) (xs : List X)
      → sum_by f (flat_map g xs) ≡ sum_by (λ (x : X). sum_by f (g x)) xs
  sum_by-flat_map f [] = refl
  sum_by-flat_map f (x ∷ xs) = search (rules, sum_by-append, sum_by-cons, sum_by-flat_map f xs)

  pub All-flat_map : (P : Y → Type 0) (xs : List X) → All (λ (x : X). All P (g x)) xs
      → All P (flat_map g xs)
  All-flat_map P [] all = All-nil P
  All-flat_map P (x ∷ xs) all =
      All-append P (g x) (flat_map g xs) (All-head (λ (y : X). All P (g y)) x xs all)
      (All-flat_map P xs (All-tail (λ (y : X). All P (g y)) x xs all))
