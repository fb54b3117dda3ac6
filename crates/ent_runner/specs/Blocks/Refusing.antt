-- When systems in blocks are refused before any of them runs, as one fact.
use Rattle.std.specs.Prelude.{◌≡◌, ◌≢◌, ◌<◌, ◌≤◌, ◌^◌, ◌↔◌, ◌⊎◌, ℕ}
use Rattle.ent_runner.specs.declared.run_error.RunError.{RunError}
use Rattle.ent_runner.specs.declared.run_error.RunError.TheVariants as failed

-- That many systems run on that many workers, with so many reservers, which are of the phase if
-- that is so. The run is refused for an error if this holds of it.
pub record IsRefused {E : Type 0} (workers systems reservers : ℕ) (AreOf : Type 0)
    (refuses : RunError E → Type 0) : Type 0 where
  pub workers_are : refuses failed.Workers ↔ ((workers ≡ 0) ⊎ (64 < workers))
  pub systems_are : refuses failed.Systems
      ↔ ((0 < workers) × (workers ≤ 64) × (2 ^ 16 < systems))
  pub reservers_are : refuses failed.Reservers
      ↔ ((0 < workers) × (workers ≤ 64) × (systems ≤ 2 ^ 16) × (reservers ≢ systems))
  pub other_phase : refuses failed.OtherPhase
      ↔ ((0 < workers) × (workers ≤ 64) × (systems ≤ 2 ^ 16) × (reservers ≡ systems)
      × ¬ AreOf)
  pub memory_some : refuses failed.Memory → 0 < systems
  pub not_needs_flush : ¬ refuses failed.NeedsFlush
  pub not_unborn : ¬ refuses failed.Unborn
