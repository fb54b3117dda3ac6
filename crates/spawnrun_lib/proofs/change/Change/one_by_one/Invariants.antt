use Rattle.ent_queue.specs.Commands.{Extends, output_of}
use Rattle.ent_queue.specs.Issuing.{Issues}
use Rattle.spawnrun_lib.proofs.Common.{◌≡◌, ◌++◌, map, take, command_on}
use Rattle.spawnrun_lib.proofs.change.Change.one_by_one.Given as goal

-- the commands for the handles so far
abbrev pub invariant-loop-handle : goal.invariant-loop-handle
invariant-loop-handle g l = record {
  extends : Extends Issues g.S.Source.serves g.S.Source.may_reply l.initial.commands l.commands;
  queue : output_of l.commands ≡ output_of l.initial.commands
      ++ map (command_on l.self) (take l.handle-index l.handles);
}
