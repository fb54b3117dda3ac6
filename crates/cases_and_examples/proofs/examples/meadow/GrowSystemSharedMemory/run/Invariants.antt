use Rattle.ent_queue.specs.OfShared.{Extends}
use Rattle.cases_and_examples.proofs.examples.meadow.GrowSystemSharedMemory.run.Given as goal

-- Commands were added, and the reserver has gained what they stand for.
abbrev pub invariant-loop-plant : goal.invariant-loop-plant
invariant-loop-plant l = Extends l.initial.commands l.commands
