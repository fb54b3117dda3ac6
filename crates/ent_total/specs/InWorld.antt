-- What contracts see of a world in a phase, and of one whose phase has ended.
use Rattle.std.specs.Prelude.{◌≡◌, ℕ, refl}
use Rattle.std.specs.Coded.{Coded, code_by, coded×, coded_ℕ}
use Rattle.ent_blocks.specs.Blocks.{Ended, ended_code}
use Rattle.ent_world.specs.InBlocks.{WorldRest, rest_code}
use Rattle.ent_world.specs.OpenWorld.{View}

-- what serves the reservers, the rest of the world, by which number queues know it, and how many
-- entities were spawned since the last flush
pub record InWorld (S : Type 0) : Type 0 where
  pub source : S
  pub rest : WorldRest
  pub of_world : ℕ
  pub spawned : ℕ

-- the same after the end of the phase
pub record EndedWorld : Type 0 where
  pub ended : Ended
  pub rest : WorldRest
  pub of_world : ℕ
  pub spawned : ℕ

-- what systems see of the world
abbrev pub view_in : {S : Type 0} → InWorld S → View
view_in w = record { phase = w.rest.phase; entities = w.rest.store.entities }

-- The phase of a world ended: its source ended so, and nothing else of the world has changed.
pub record IsEndOf {S : Type 0} (w : InWorld S) (end : EndedWorld) (Closes : Ended → Type 0)
    : Type 0 where
  pub closes : Closes end.ended
  pub rest : end.rest ≡ w.rest
  pub of_world : end.of_world ≡ w.of_world
  pub spawned : end.spawned ≡ w.spawned

-- each is stored as the tuple of its parts
abbrev pub in_world_code : {S : Type 0} → Coded S → Coded (InWorld S)
in_world_code {S} s =
    code_by (S × (WorldRest × (ℕ × ℕ))) (coded× s (coded× rest_code (coded× coded_ℕ coded_ℕ)))
    (λ w. (w.source, (w.rest, (w.of_world, w.spawned))))
    (λ t. record { source = t.0; rest = t.1.0; of_world = t.1.1.0; spawned = t.1.1.1 }) (λ _. refl)

abbrev pub ended_world_code : Coded EndedWorld
ended_world_code =
    code_by (Ended × (WorldRest × (ℕ × ℕ)))
    (coded× ended_code (coded× rest_code (coded× coded_ℕ coded_ℕ)))
    (λ w. (w.ended, (w.rest, (w.of_world, w.spawned))))
    (λ t. record { ended = t.0; rest = t.1.0; of_world = t.1.1.0; spawned = t.1.1.1 }) (λ _. refl)
