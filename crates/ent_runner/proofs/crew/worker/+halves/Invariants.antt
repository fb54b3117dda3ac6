use Rattle.ent_runner.proofs.Common.{◌+◌, ◌-◌, ◌*◌, length}
use Rattle.ent_runner.proofs.crew.worker.+halves.Given as goal

-- a part of the workers is shorter than all of them
abbrev pub decreases-run_all : goal.decreases-run_all
decreases-run_all g l = 4 * length l.workers.now

abbrev pub decreases-run_both : goal.decreases-run_both
decreases-run_both g l = 4 * (length l.front.now + length l.back.now) - 1

abbrev pub decreases-run_both-one : goal.decreases-run_both-one
decreases-run_both-one g l = 4 * length l.front.now + 1

abbrev pub decreases-run_both-other : goal.decreases-run_both-other
decreases-run_both-other g l = 4 * length l.back.now + 1
