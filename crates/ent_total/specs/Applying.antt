-- What holds of a sync point that wasn't completed.
use Rattle.std.specs.Prelude.{◌≡◌, ℕ, Result, Ok, Err}
use Rattle.ent_world.specs.declared.fault.SyncReport.{SyncReport}
use Rattle.ent_total.specs.Batch.{Queues, Stopped}
use Rattle.ent_total.specs.declared.sync_error.SyncError.{SyncError}
use Rattle.ent_total.specs.declared.sync_error.SyncError.TheVariants as applied

-- the queues that come back
abbrev pub queues_in : SyncError → Queues
queues_in (applied.OtherWorld queues) = queues
queues_in (applied.Memory queues) = queues
queues_in (applied.Stopped stopped) = stopped.queues

-- what comes back: the queues if nothing was done, and otherwise where it stopped
abbrev pub parts_of : SyncError → Result Queues Stopped
parts_of (applied.OtherWorld queues) = Ok queues
parts_of (applied.Memory queues) = Ok queues
parts_of (applied.Stopped stopped) = Err stopped

-- if it stopped at a command, this is true of the stop
abbrev pub IfStopped : SyncError → (Stopped → Type 0) → Type 0
IfStopped (applied.OtherWorld queues) P = Unit {0}
IfStopped (applied.Memory queues) P = Unit {0}
IfStopped (applied.Stopped stopped) P = P stopped

-- nothing was done
abbrev pub IsUnbegun : SyncError → Type 0
IsUnbegun (applied.OtherWorld queues) = Unit {0}
IsUnbegun (applied.Memory queues) = Unit {0}
IsUnbegun (applied.Stopped stopped) = ⊥

-- each reason
abbrev pub IsOtherWorld : SyncError → Type 0
IsOtherWorld (applied.OtherWorld queues) = Unit {0}
IsOtherWorld (applied.Memory queues) = ⊥
IsOtherWorld (applied.Stopped stopped) = ⊥

abbrev pub IsMemory : SyncError → Type 0
IsMemory (applied.OtherWorld queues) = ⊥
IsMemory (applied.Memory queues) = Unit {0}
IsMemory (applied.Stopped stopped) = ⊥

-- How many entities were spawned since the last flush, before and after: none if it flushed, and
-- otherwise as many as before.
abbrev pub IsCounted : Result SyncReport SyncError → ℕ → ℕ → Type 0
IsCounted (Ok report) before after = after ≡ 0
IsCounted (Err (applied.OtherWorld queues)) before after = after ≡ before
IsCounted (Err (applied.Memory queues)) before after = after ≡ before
IsCounted (Err (applied.Stopped stopped)) before after = after ≡ 0
