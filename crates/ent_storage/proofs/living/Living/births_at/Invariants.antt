use Rattle.ent_storage.proofs.Common.{◌≡◌, ℕ, ℤ, map, take, Some, Option, Birth, Handle, born_at}
use Rattle.ent_storage.proofs.living.Living.births_at.Given as goal

-- the births of the pairs that were passed
abbrev pub invariant-loop-pair : goal.invariant-loop-pair
invariant-loop-pair l = map {A = Birth × Handle} {B = Option (Birth × Handle)} Some l.births.items
    ≡ map {A = ℕ × ℤ} (λ pair. born_at l.self.entities pair.0) (take l.pair-index l.pairs)
