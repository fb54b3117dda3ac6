use Rattle.ent_runner.proofs.Common.{◌≡◌, ℕ, ◌<◌, false, get_or}
use Rattle.ent_runner.proofs.crew.some_stopped.Given as goal

-- none so far has stopped
abbrev pub invariant-loop-worker : goal.invariant-loop-worker
invariant-loop-worker g l = (k : ℕ) → k < l.worker-index → (d : _)
    → (get_or l.workers k d).stopped ≡ false
