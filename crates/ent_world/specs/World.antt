-- A world: which entities are alive, and what each of them is made of.
use Rattle.std.specs.Prelude.{◌≡◌, ℕ, Bool, refl}
use Rattle.std.specs.Coded.{Coded, code_by, coded×, coded_ℕ}
use Rattle.std.specs.FinSet as set
use Rattle.std.specs.FinMap as map
use Rattle.ent_handle.specs.Handle.{Handle, handle_code}
use Rattle.ent_alloc.specs.Limits.{Limits}
use Rattle.ent_alloc.specs.Sequential.{Allocator, allocator_code, opening}
use Rattle.ent_alloc.specs.Sound.{IsSound}
use Rattle.ent_storage.specs.EntityMap.{EntityMap, entity_code}

-- the allocator of its handles, how often it was flushed, and its living entities
pub record World : Type 0 where
  pub allocator : Allocator
  pub phase : ℕ
  pub entities : EntityMap

-- the world in which no entity ever lived
abbrev pub first_world : Limits → World
first_world limits = record { allocator = opening limits; phase = 0; entities = map.empty }

-- The entities of the map are exactly those whose handle is alive.
abbrev pub AreLiving : Allocator → EntityMap → Type 0
AreLiving s m = (h : Handle) → map.contains_key m h ≡ set.contains s.live h

-- What is true of every world: its allocator is as all steps leave it (`IsSound`), and its map has
-- exactly those that are alive.
pub record IsWorld (w : World) : Type 0 where
  pub sound : IsSound w.allocator
  pub living : AreLiving w.allocator w.entities

-- the entity is there
abbrev pub lives_in : World → Handle → Bool
lives_in w h = map.contains_key w.entities h

-- a world is stored as the tuple of its parts
abbrev pub world_code : Coded World
world_code =
    code_by (Allocator × (ℕ × EntityMap))
    (coded× allocator_code (coded× coded_ℕ (map.code handle_code entity_code)))
    (λ w. (w.allocator, (w.phase, w.entities)))
    (λ p. record { allocator = p.0; phase = p.1.0; entities = p.1.1 }) (λ _. refl)
