-- What one system in blocks fills, as a job of a crew. For private contracts.
use Rattle.std.specs.Prelude.{◌≡◌, ℕ, List, length, slice_get, Some}
use Rattle.std.specs.List.{All}
use Rattle.ent_alloc.specs.Serving.{Request}
use Rattle.ent_blocks.specs.Blocks.{Blocks, Reserver}
use Rattle.ent_blocks.specs.Drawing.{IsDrawn, IsOfPhase}
use Rattle.ent_runner.specs.Filling.{IsFilled}

-- The system of this number filled the output from its own block, and hands back the output and the
-- reserver.
pub record IsDealt {O : Type 0} (Adds : O → List Request → O → Type 0) (empty : O)
    (may : ℕ → O → Type 0) (phase : Blocks) (reservers : List Reserver) (n : ℕ)
    (done : O × Reserver) : Type 0 where
  pub system : may n done.0
  pub of_phase : IsOfPhase phase done.1
  pub filled : (r : Reserver) → slice_get reservers n ≡ Some r
      → IsFilled Adds empty (IsDrawn phase) r done.0 done.1

-- each system has a reserver of the phase
pub record AreReady (phase : Blocks) (systems : ℕ) (reservers : List Reserver) : Type 0 where
  pub count : length reservers ≡ systems
  pub of_phase : All (IsOfPhase phase) reservers
