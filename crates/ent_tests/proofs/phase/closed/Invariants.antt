use Rattle.std.proofs.Common.{All}
use Rattle.ent_shared.specs.Phase.{IsOf}
use Rattle.ent_tests.specs.declared.caller.Caller.{Caller}
use Rattle.ent_tests.proofs.phase.closed.Given as goal

abbrev pub invariant-loop : goal.invariant-loop
invariant-loop g l = record {
  left : All (λ (c : Caller). IsOf l.shared c.reserver) l.callers.items;
  own : All (IsOf l.shared) l.reservers.items;
}
