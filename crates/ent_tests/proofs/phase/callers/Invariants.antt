use Rattle.std.proofs.Common.{All}
use Rattle.ent_shared.specs.Phase.{IsOf}
use Rattle.ent_tests.specs.declared.caller.Caller.{Caller}
use Rattle.ent_tests.proofs.phase.callers.Given as goal

abbrev pub invariant-loop-some : goal.invariant-loop-some
invariant-loop-some g l = record {
  left : All (IsOf l.shared) l.reservers.items;
  own : All (λ (c : Caller). IsOf l.shared c.reserver) l.callers.items;
}
