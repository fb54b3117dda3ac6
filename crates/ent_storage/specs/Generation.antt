-- For `inverse` in `impl Model for Generation`: a generation is kept as a number with a proof that
-- it isn't 0.
use Rattle.std.specs.Prelude.{◌≡◌, ℕ, ◌+◌, ◌-◌, ◌<◌}
use Rattle.std.proofs.Common.{arith}

-- A generation is never 0. But `inverse` is asked of any number, so 0 becomes 1.
abbrev pub positive : ℕ → ℕ
positive n = n + (1 - n)

pub positive-positive : (n : ℕ) → 0 < positive n
positive-positive n = omega arith

pub positive-same : (n : ℕ) → 0 < n → positive n ≡ n
positive-same n some = omega arith
