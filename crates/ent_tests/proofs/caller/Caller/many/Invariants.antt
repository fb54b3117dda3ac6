use Rattle.ent_shared.specs.Phase.{IsOf}
use Rattle.ent_tests.proofs.caller.Caller.many.Given as goal

-- the reserver stays one of this allocator
abbrev pub invariant-loop-handle : goal.invariant-loop-handle
invariant-loop-handle l = IsOf l.shared l.self.reserver
