use Rattle.ent_replay.proofs.Common.{◌≡◌, new_logs}
use Rattle.ent_replay.proofs.trace.recorder.Recorder.new.Given as goal

abbrev pub invariant-loop-caller : goal.invariant-loop-caller
invariant-loop-caller l = l.logs.items ≡ new_logs l.caller
