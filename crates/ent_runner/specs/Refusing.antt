-- When systems over a shared allocator are refused before any of them runs, for callers that prove
-- nothing.
use Rattle.std.specs.Prelude.{◌≡◌, ◌<◌, ◌≤◌, ◌^◌, ◌↔◌, ◌⊎◌, ℕ}

-- So many handles are requested since the last flush, and that many systems run on that many
-- workers. The run is refused since a flush is needed, for the workers, or for the systems.
pub record IsRefused (asked workers systems : ℕ) (NeedsFlush NoCrew TooMany : Type 0) : Type 0 where
  pub needs_flush : NeedsFlush ↔ (0 < asked)
  pub no_crew : NoCrew ↔ ((asked ≡ 0) × ((workers ≡ 0) ⊎ (64 < workers)))
  pub too_many : TooMany
      ↔ ((asked ≡ 0) × (0 < workers) × (workers ≤ 64) × (2 ^ 16 < systems))
