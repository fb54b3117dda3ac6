-- Lists of numbers that weigh the same, however each number is weighed.
use Rattle.ent_runner.proofs.Common.{IsPermutation, common_steps, rules, ◌≡◌, ℕ, zero, suc, ◌+◌}
use Rattle.ent_runner.proofs.Common.{◌<◌, ◌≤◌, List, [], ◌∷◌, sym, refl, ap, arith, eq-eqb, ne_eqb}
use Rattle.ent_runner.proofs.Common.{remove, cond, Bool, ◌==◌, sum_by, Contains, range_with_len}
use Rattle.ent_runner.proofs.Common.{sum_by-cons, IsPermutation-refl, IsPermutation-trans}
use Rattle.ent_runner.proofs.Common.{IsPermutation-cons, IsPermutation-remove, sum_by_popped, dite}
use Rattle.ent_runner.proofs.Common.{ℕ_discrete}

-- 1 for the number itself
abbrev pub is : ℕ → ℕ → ℕ
is n m = cond {A = ℕ} (m == n) 1 0

is_same : (n m : ℕ) → m ≡ n → is n m ≡ 1
is_same n m e = ap (λ (b : Bool). cond {A = ℕ} b 1 0) (eq-eqb m n e)

is_other : (n m : ℕ) → (m ≡ n → ⊥) → is n m ≡ 0
is_other n m ne = ap (λ (b : Bool). cond {A = ℕ} b 1 0) (ne_eqb m n ne)

pub inside : (n : ℕ) (xs : List ℕ) → 1 ≤ sum_by (is n) xs → Contains xs n
inside n [] some = absurd (omega arith)
inside n (x ∷ xs) some = dite (ℕ_discrete x n) (λ same. (0, omega arith, same)) (λ other.
    let rest = inside n xs (search (rules, sum_by-cons, is_other n x other)) in
    (suc rest.0, omega (arith, rest.1), rest.2))

-- how often a number stands among those from low on
pub in_range : (n low many : ℕ) → (sum_by (is n) (range_with_len low many) ≤ 1)
    × (n < low → sum_by (is n) (range_with_len low many) ≡ 0)
    × (low ≤ n → n < low + many → 1 ≤ sum_by (is n) (range_with_len low many))
    × (low + many ≤ n → sum_by (is n) (range_with_len low many) ≡ 0)
in_range n low zero = (omega arith, λ _. refl, λ le lt. absurd (omega arith), λ _. refl)
in_range n low (suc many) =
    grind (
      arith,
      common_steps,
      in_range n (low + 1) many,
      sum_by-cons,
      dite,
      ℕ_discrete,
      is_same,
      is_other,
    )

nothing_in : (xs : List ℕ) → sum_by (λ (_ : ℕ). 1) xs ≡ 0 → xs ≡ []
nothing_in [] e = refl
nothing_in (x ∷ xs) e = grind (arith, common_steps, sum_by-cons)

pub weigh_same : (xs ys : List ℕ) → ((f : ℕ → ℕ) → sum_by f xs ≡ sum_by f ys) → IsPermutation xs ys
weigh_same xs [] same = rw (nothing_in xs (same (λ (_ : ℕ). 1))) (IsPermutation-refl [])
weigh_same xs (y ∷ ys) same =
    let at =
    inside y xs
    (grind (arith, common_steps, same (is y), sum_by-cons (is y) y ys, is_same y y refl)) in
    let rest =
    weigh_same (remove xs at.0) ys
    (λ f. grind (arith, common_steps, sum_by_popped, sum_by-cons)) in
    IsPermutation-trans _ _ _ (IsPermutation-remove xs at.0 y at.1 (sym at.2))
    (IsPermutation-cons y _ _ rest)
