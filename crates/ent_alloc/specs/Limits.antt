-- How far an allocator may go.
use Rattle.std.specs.Prelude.{ℕ, ◌-◌, ◌^◌, ◌<◌, ◌≤◌, ◌==◌, ◌&&◌, if◌then◌else◌, refl}
use Rattle.std.specs.Coded.{Coded, code_by, coded×, coded_ℕ}

-- how many slots there are, and the last generation of a slot
pub record Limits : Type 0 where
  pub slots : ℕ
  pub generations : ℕ

-- the ranges of the two numbers
pub record AreLimits (l : Limits) : Type 0 where
  pub some_slot : 1 ≤ l.slots
  pub slots : l.slots < 2 ^ 32
  pub some_generation : 1 ≤ l.generations
  pub generations : l.generations < 2 ^ 31

-- the greatest of both
abbrev pub greatest_limits : Limits
greatest_limits = record { slots = 2 ^ 32 - 1; generations = 2 ^ 31 - 1 }

-- the same limits, but the greatest ones with a generation less
abbrev pub without_placeholder : Limits → Limits
without_placeholder l =
    if l.slots == 2 ^ 32 - 1 && l.generations == 2 ^ 31 - 1
    then record l { generations = 2 ^ 31 - 2 }
    else l

-- how many handles one caller may request between two flushes
unfoldable pub quota : ℕ
quota = 2 ^ 40

-- limits are stored as the pair of their numbers
abbrev pub limits_code : Coded Limits
limits_code =
    code_by (ℕ × ℕ) (coded× coded_ℕ coded_ℕ) (λ l. (l.slots, l.generations))
    (λ p. record { slots = p.0; generations = p.1 }) (λ _. refl)
