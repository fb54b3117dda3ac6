use Rattle.std.specs.Prelude.{◌≡◌, []}
use Rattle.std.specs.List.{All}
use Rattle.ent_queue.specs.Commands.{output_of}
use Rattle.ent_queue.specs.OfShared.{Extends}
use Rattle.cases_and_examples.specs.Issuing.{IsOnProjectile}
use Rattle.cases_and_examples.proofs.examples.game.systems.AgeSystemSharedMemory.run.Given as goal

-- Commands were added. If the queue was empty, all of them are on projectiles.
abbrev pub invariant-loop-handle : goal.invariant-loop-handle
invariant-loop-handle l = record {
  extends : Extends l.initial.commands l.commands;
  may : output_of l.initial.commands ≡ [] → All (IsOnProjectile l.view) (output_of l.commands);
}
