use Rattle.spawnrun_lib.proofs.Common.{◌≡◌, [], lines_of, line_at, slice_index_or}
use Rattle.spawnrun_lib.proofs.schedule.line_of.Given as goal

abbrev pub invariant-loop-before : goal.invariant-loop-before
invariant-loop-before l = slice_index_or (lines_of l.rest) l.before [] ≡ line_at l.text l.fn.line

abbrev pub decreases-loop-before : goal.decreases-loop-before
decreases-loop-before l = l.before
