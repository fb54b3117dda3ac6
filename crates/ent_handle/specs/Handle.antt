-- Handles: a slot of the allocator, and one of its occupants.
use Rattle.std.specs.Prelude.{◌≡◌, ℕ, ◌+◌, ◌-◌, ◌*◌, ◌/◌, ◌%◌, ◌^◌, ◌<◌, ◌≤◌, ◌==◌, Bool, refl}
use Rattle.std.proofs.Common.{arith}
use Rattle.std.specs.Coded.{Coded, code_by, coded×, coded_ℕ}
use Rattle.std.specs.declared.cmp.Ordering.{Ordering}
use Rattle.std.specs.Ordering.{nat_cmp, on, then_cmp, eq_of_both}
use Rattle.std.specs.Cmp.{IsTotalOrder, nat_cmp_total, on_total, then_total}
use Rattle.std.specs.FinMap.{IsAntisymmetric, nat_cmp-IsAntisymmetric}
use Rattle.ent_handle.specs.Ties.{both_tie}

-- the slot's index, and the generation that tells its occupants apart
pub record Handle : Type 0 where
  pub index : ℕ
  pub generation : ℕ

-- the ranges of the two numbers
pub record IsHandle (h : Handle) : Type 0 where
  pub index : h.index < 2 ^ 32 - 1
  pub least : 1 ≤ h.generation
  pub greatest : h.generation < 2 ^ 31

-- the greatest handle
abbrev pub placeholder : Handle
placeholder = record { index = 2 ^ 32 - 2; generation = 2 ^ 31 - 1 }

-- the two numbers in one: the generation above the index
abbrev pub bits : Handle → ℕ
bits h = h.generation * 2 ^ 32 + h.index

-- the handle of these bits
abbrev pub handle_of_bits : ℕ → Handle
handle_of_bits n = record { index = n % 2 ^ 32; generation = n / 2 ^ 32 }

pub bits-handle_of_bits : (n : ℕ) → bits (handle_of_bits n) ≡ n
bits-handle_of_bits n = omega arith

-- both numbers are the same
abbrev pub handle_eq : Handle → Handle → Bool
handle_eq = eq_of_both (on (λ h. h.index) ◌==◌) (on (λ h. h.generation) ◌==◌)

-- by index, then by generation
abbrev pub handle_cmp : Handle → Handle → Ordering
handle_cmp = then_cmp (on (λ h. h.index) nat_cmp) (on (λ h. h.generation) nat_cmp)

pub handle_cmp_total : IsTotalOrder handle_cmp
handle_cmp_total =
    then_total (on_total (λ (h : Handle). h.index) nat_cmp_total)
    (on_total (λ (h : Handle). h.generation) nat_cmp_total)

pub handle_cmp-IsAntisymmetric : IsAntisymmetric handle_cmp
handle_cmp-IsAntisymmetric a b e =
    let parts = both_tie (nat_cmp a.index b.index) (nat_cmp a.generation b.generation) e in
    let index = nat_cmp-IsAntisymmetric a.index b.index parts.0 in
    let generation = nat_cmp-IsAntisymmetric a.generation b.generation parts.1 in
    λ i. record { index = index i; generation = generation i }

-- a handle is stored as the pair of its numbers
abbrev pub handle_code : Coded Handle
handle_code =
    code_by (ℕ × ℕ) (coded× coded_ℕ coded_ℕ) (λ h. (h.index, h.generation))
    (λ p. record { index = p.0; generation = p.1 }) (λ _. refl)
