-- What contracts see of a world whose allocator is in a phase in blocks.
use Rattle.std.specs.Prelude.{ℕ, ◌≤◌, List, refl}
use Rattle.std.specs.Coded.{Coded, code_by, coded×, coded_ℕ}
use Rattle.ent_alloc.specs.Sequential.{Allocator, top}
use Rattle.ent_blocks.specs.Blocks.{Block, after_blocks}
use Rattle.ent_storage.specs.EntityMap.{Store, store_code}
use Rattle.ent_world.specs.Rows.{AreRows, Rows}
use Rattle.ent_world.specs.World.{World, IsWorld}

-- a world without its allocator: where its entities are, and how often it was flushed
pub record WorldRest : Type 0 where
  pub store : Store
  pub phase : ℕ

-- what deals the handles of a world, and the rest of the world
pub record Dealt (S : Type 0) : Type 0 where
  pub source : S
  pub rest : WorldRest

-- the world that this is the rest of, with this allocator
abbrev pub world_with : Allocator → WorldRest → World
world_with s rest = record { allocator = s; phase = rest.phase; entities = rest.store.entities }

-- The allocator, with its rows, belongs to the rest: it is a world, its rows are the places, and
-- there is room for the next occupant of each slot that waits.
pub record BelongTogether (s : Allocator) (rows : Rows) (rest : WorldRest) : Type 0 where
  pub world : IsWorld (world_with s rest)
  pub rows_are : AreRows rows rest.store.places rest.store.entities
  pub room : top s ≤ rest.store.spare

-- the world with that much of its blocks used
abbrev pub world_after : World → List Block → World
world_after w blocks = record w { allocator = after_blocks w.allocator blocks }

-- each is stored as the pair of its parts
abbrev pub rest_code : Coded WorldRest
rest_code =
    code_by (Store × ℕ) (coded× store_code coded_ℕ) (λ w. (w.store, w.phase))
    (λ p. record { store = p.0; phase = p.1 }) (λ _. refl)

abbrev pub dealt_code : {S : Type 0} → Coded S → Coded (Dealt S)
dealt_code {S} s =
    code_by (S × WorldRest) (coded× s rest_code) (λ d. (d.source, d.rest))
    (λ p. record { source = p.0; rest = p.1 }) (λ _. refl)
