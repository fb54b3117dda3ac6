-- What contracts see of a world whose allocator is shared, and of what a system may read of it.
use Rattle.std.specs.Prelude.{◌≡◌, ℕ, refl}
use Rattle.std.specs.Coded.{Coded, code_by, coded×, coded_ℕ}
use Rattle.std.specs.FinMap as map
use Rattle.ent_handle.specs.Handle.{handle_code}
use Rattle.ent_shared.specs.Phase.{Shared, shared_code}
use Rattle.ent_storage.specs.EntityMap.{EntityMap, entity_code}
use Rattle.ent_world.specs.World.{World, IsWorld}

-- the shared allocator, the number of the phase, and the entities that live
pub record OpenWorld : Type 0 where
  pub shared : Shared
  pub phase : ℕ
  pub entities : EntityMap

-- the world that was opened
abbrev pub world_at_start : OpenWorld → World
world_at_start w = record { allocator = w.shared.start; phase = w.phase; entities = w.entities }

-- What is true of every open world: it was a world, and nothing was asked for when it was opened.
pub record IsOpenWorld (w : OpenWorld) : Type 0 where
  pub world : IsWorld (world_at_start w)
  pub flushed : w.shared.start.asked ≡ 0

-- what can be read while others reserve
pub record View : Type 0 where
  pub phase : ℕ
  pub entities : EntityMap

-- each is stored as the tuple of its parts
abbrev pub open_world_code : Coded OpenWorld
open_world_code =
    code_by (Shared × (ℕ × EntityMap))
    (coded× shared_code (coded× coded_ℕ (map.code handle_code entity_code)))
    (λ w. (w.shared, (w.phase, w.entities)))
    (λ p. record { shared = p.0; phase = p.1.0; entities = p.1.1 }) (λ _. refl)

abbrev pub view_code : Coded View
view_code =
    code_by (ℕ × EntityMap) (coded× coded_ℕ (map.code handle_code entity_code))
    (λ v. (v.phase, v.entities)) (λ p. record { phase = p.0; entities = p.1 }) (λ _. refl)
