-- The order of component numbers, and how one is stored.
use Rattle.std.specs.Prelude.{ℕ, refl}
use Rattle.std.specs.Coded.{Coded, code_by, coded_ℕ}
use Rattle.std.specs.declared.cmp.Ordering.{Ordering}
use Rattle.std.specs.Ordering.{nat_cmp, on}
use Rattle.std.specs.Cmp.{IsTotalOrder, nat_cmp_total, on_total}
use Rattle.std.specs.FinMap.{IsAntisymmetric, nat_cmp-IsAntisymmetric}
use Rattle.ent_handle.specs.declared.component.ComponentId.{ComponentId}

-- by number
abbrev pub component_cmp : ComponentId → ComponentId → Ordering
component_cmp = on (λ c. c.0) nat_cmp

pub component_cmp_total : IsTotalOrder component_cmp
component_cmp_total = on_total (λ (c : ComponentId). c.0) nat_cmp_total

pub component_cmp-IsAntisymmetric : IsAntisymmetric component_cmp
component_cmp-IsAntisymmetric a b e =
    let same = nat_cmp-IsAntisymmetric a.0 b.0 e in
    λ i. record { 0 = same i }

-- a component's number is stored as that number
abbrev pub component_code : Coded ComponentId
component_code = code_by ℕ coded_ℕ (λ c. c.0) (λ n. record { 0 = n }) (λ _. refl)
