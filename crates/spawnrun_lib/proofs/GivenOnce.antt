-- No handle is given twice over all frames of a run.
use Rattle.spawnrun_lib.proofs.Common.{rules, ◌≢◌, ℕ, List, [], ◌∷◌, ◌++◌, append_assoc, append-nil}
use Rattle.spawnrun_lib.proofs.Common.{Handle, AreSpent, given_in, AreGivenOnce, AreLimits, IsSound}
use Rattle.spawnrun_lib.proofs.Common.{World, first_world, AreLiving, frame-given, frame-sound}
use Rattle.spawnrun_lib.proofs.Common.{frame-living, opening-given, first_world-sound}
use Rattle.spawnrun_lib.proofs.Common.{first_world-living, Script, Operation, Execution}
use Rattle.spawnrun_lib.proofs.Common.{AreExecutions, synced, IsReportOf, handles_in_run, Show}
use Rattle.spawnrun_lib.proofs.Common.{AllPairs}

more_given : (workers : ℕ) (w : World) (frames : List (List (List Operation)))
    (executions : List Execution) (given : List Handle) → IsSound w.allocator
    → AreLiving w.allocator w.entities → AreExecutions workers w frames executions
    → AreSpent w.allocator given → AllPairs (λ g h. g ≢ h) (given ++ handles_in_run executions)
more_given workers w frames [] given sound living went once = search (rules, append-nil)
more_given workers w [] (e ∷ executions) given sound living went once = absurd went
more_given workers w (systems ∷ frames) (e ∷ executions) given sound living went once =
    rw (← append_assoc)
    (search (
      rules,
      frame-sound,
      frame-living,
      frame-given,
      more_given workers (synced w e).world frames executions (given ++ given_in e.history),
    ))

pub given_once : (script : Script) (workers : ℕ) (show : Show) (executions : List Execution)
    (text : List ℕ) → AreLimits script.limits → IsReportOf script workers show executions text
    → AreGivenOnce (handles_in_run executions)
given_once script workers show executions text limits report =
    search (
      rules,
      more_given workers (first_world script.limits) script.frames executions [],
      first_world-sound,
      first_world-living,
      opening-given,
    )
