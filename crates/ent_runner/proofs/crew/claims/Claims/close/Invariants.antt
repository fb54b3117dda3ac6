use Rattle.ent_runner.proofs.Common.{◌≡◌, [], ◌++◌, map, Claimer}
use Rattle.ent_runner.proofs.crew.claims.Claims.close.Given as goal

abbrev pub invariant-loop-claimer : goal.invariant-loop-claimer
invariant-loop-claimer l = record {
  all : l.yielded ++ l.claimer-iterator.rest.items ≡ l.fn.claimers.items;
  seat : l.all.table_id ≡ l.word.shared.table_id;
  bare : l.all.me.1 ≡ [];
  records : l.all.me.0 ≡ map (λ (c : Claimer). c.own) l.yielded;
}
