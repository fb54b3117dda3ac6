use Rattle.ent_queue.specs.Commands.{Extends, output_of}
use Rattle.ent_queue.specs.Issuing.{Issues}
use Rattle.spawnrun_lib.proofs.Common.{names_of, IsRollOf}
use Rattle.spawnrun_lib.proofs.SystemRunning.{HasRun}
use Rattle.spawnrun_lib.proofs.issuing.issue_all.Given as goal

abbrev pub invariant-loop-operation : goal.invariant-loop-operation
invariant-loop-operation g l = record {
  extends : Extends Issues g.S.Source.serves g.S.Source.may_reply l.initial.commands l.commands;
  roll : IsRollOf l.view l.roll;
  run : HasRun l.view l.operations l.operation-index (names_of l.names)
      (output_of l.initial.commands) (output_of l.commands);
}
