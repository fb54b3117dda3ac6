use Rattle.ent_queue.specs.OfShared.{Extends}
use Rattle.cases_and_examples.proofs.cases.frames.copy.Given as goal

abbrev pub invariant-loop-handle : goal.invariant-loop-handle
invariant-loop-handle l = Extends l.initial.commands l.commands
