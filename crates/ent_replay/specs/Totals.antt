-- Sums over the callers. Only the invariant of `Machine` and proofs use this.
use Rattle.std.specs.Prelude.{ℕ, zero, suc, ◌+◌}

-- the sum of f at the numbers below the given one
unfoldable pub sum_below : (ℕ → ℕ) → ℕ → ℕ
sum_below f zero = 0
sum_below f (suc n) = sum_below f n + f n
