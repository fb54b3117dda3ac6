-- When a phase of an allocator or of a world is not opened, and why, but for memory.
use Rattle.std.specs.Prelude.{◌≡◌, ◌<◌, ◌↔◌, ℕ}
use Rattle.ent_total.specs.declared.share_error.ShareError.{ShareError}
use Rattle.ent_total.specs.declared.share_error.ShareError.TheVariants.{NeedsFlush, Count}

-- `asked` handles were requested since the last flush. `Unfit` says that there can't be so many
-- callers, and `refuses` that the call returned this error.
pub record IsUnopened (asked : ℕ) (Unfit : Type 0) (refuses : ShareError → Type 0) : Type 0 where
  pub needs_flush : refuses NeedsFlush ↔ (0 < asked)
  pub no_count : refuses Count ↔ ((asked ≡ 0) × Unfit)
