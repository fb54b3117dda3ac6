use Rattle.spawnrun_lib.proofs.Common.{◌≡◌, take, after_events, outcomes_of, starting}
use Rattle.spawnrun_lib.proofs.Common.{outcome_lines}
use Rattle.spawnrun_lib.proofs.replaying.outcome_text.Given as goal

abbrev pub invariant-loop-done : goal.invariant-loop-done
invariant-loop-done g l = record {
  machine : l.machine ≡ after_events (starting l.fn.limits) (take l.done l.events);
  text : l.text.items ≡ outcome_lines (outcomes_of (starting l.fn.limits) (take l.done l.events));
}
