use Rattle.std.proofs.Common.{◌≡◌, drop}
use Rattle.cases_and_examples.proofs.cases.queues.stops_of.Given as goal

-- the first ones were yielded
abbrev pub invariant-loop-number : goal.invariant-loop-number
invariant-loop-number l = l.entries ≡ drop l._number l.queue
