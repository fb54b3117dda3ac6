-- The order of births, and how a birth is stored.
use Rattle.std.specs.Prelude.{ℕ, refl}
use Rattle.std.specs.Coded.{Coded, code_by, coded×, coded_ℕ}
use Rattle.std.specs.declared.cmp.Ordering.{Ordering}
use Rattle.std.specs.Ordering.{nat_cmp, on, then_cmp}
use Rattle.std.specs.Cmp.{IsTotalOrder, nat_cmp_total, on_total, then_total}
use Rattle.std.specs.FinMap.{IsAntisymmetric, nat_cmp-IsAntisymmetric}
use Rattle.ent_handle.specs.declared.birth.Birth.{Birth}
use Rattle.ent_handle.specs.Ties.{both_tie}

-- by frame, then by system, then by ordinal
abbrev pub birth_cmp : Birth → Birth → Ordering
birth_cmp =
    then_cmp (on (λ b. b.frame) nat_cmp)
    (then_cmp (on (λ b. b.system) nat_cmp) (on (λ b. b.ordinal) nat_cmp))

pub birth_cmp_total : IsTotalOrder birth_cmp
birth_cmp_total =
    then_total (on_total (λ (b : Birth). b.frame) nat_cmp_total)
    (then_total (on_total (λ (b : Birth). b.system) nat_cmp_total)
    (on_total (λ (b : Birth). b.ordinal) nat_cmp_total))

pub birth_cmp-IsAntisymmetric : IsAntisymmetric birth_cmp
birth_cmp-IsAntisymmetric a b e =
    let parts = both_tie (nat_cmp a.frame b.frame) _ e in
    let others = both_tie (nat_cmp a.system b.system) (nat_cmp a.ordinal b.ordinal) parts.1 in
    let frame = nat_cmp-IsAntisymmetric a.frame b.frame parts.0 in
    let system = nat_cmp-IsAntisymmetric a.system b.system others.0 in
    let ordinal = nat_cmp-IsAntisymmetric a.ordinal b.ordinal others.1 in
    λ i. record { frame = frame i; system = system i; ordinal = ordinal i }

-- a birth is stored as its three numbers
abbrev pub birth_code : Coded Birth
birth_code =
    code_by (ℕ × (ℕ × ℕ)) (coded× coded_ℕ (coded× coded_ℕ coded_ℕ))
    (λ b. (b.frame, (b.system, b.ordinal)))
    (λ p. record { frame = p.0; system = p.1.0; ordinal = p.1.1 }) (λ _. refl)
