use Rattle.ent_shared.specs.Phase.{IsOf}
use Rattle.ent_tests.proofs.caller.Caller.ask.Given as goal

-- the reserver stays one of this allocator
abbrev pub invariant-loop : goal.invariant-loop
invariant-loop l = IsOf l.shared l.self.reserver
