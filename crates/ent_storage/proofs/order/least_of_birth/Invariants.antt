use Rattle.ent_storage.proofs.Common.{map, take, Birth, Handle, Resident, IsLeastOf}
use Rattle.ent_storage.proofs.order.least_of_birth.Given as goal

-- the least of those that were passed
abbrev pub invariant-loop-resident : goal.invariant-loop-resident
invariant-loop-resident l = IsLeastOf l.birth (map {A = Resident} {B = Birth × Handle}
    (λ resident. (resident.birth, resident.handle)) (take l.resident-index l.residents)) l.least
