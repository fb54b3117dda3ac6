use Rattle.ent_queue.specs.OfShared.{Extends}
use Rattle.cases_and_examples.proofs.cases.frames.ListedSystemSharedMemory.run.Given as goal

abbrev pub invariant-loop-call : goal.invariant-loop-call
invariant-loop-call l = Extends l.initial.commands l.commands
