-- An allocator that is about to take over another one.
use Rattle.std.specs.Prelude.{ℕ, refl}
use Rattle.std.specs.Coded.{Coded, code_by, coded×, coded_ℕ}
use Rattle.ent_alloc.specs.Entities.{Entities, entities_code}

-- the allocator as it is, and for how many slots it has room, in all and of those that wait
pub record Prepared : Type 0 where
  pub entities : Entities
  pub slots : ℕ
  pub waiting : ℕ

-- it is stored as the tuple of its parts
abbrev pub prepared_code : Coded Prepared
prepared_code =
    code_by (Entities × (ℕ × ℕ)) (coded× entities_code (coded× coded_ℕ coded_ℕ))
    (λ p. (p.entities, (p.slots, p.waiting)))
    (λ p. record { entities = p.0; slots = p.1.0; waiting = p.1.1 }) (λ _. refl)
