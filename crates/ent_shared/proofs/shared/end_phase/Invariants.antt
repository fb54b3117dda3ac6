use Rattle.ent_shared.proofs.Common.{◌≡◌, [], ◌++◌, map, Reserver, least_floor}
use Rattle.ent_shared.proofs.shared.end_phase.Given as goal

abbrev pub invariant-loop-reserver : goal.invariant-loop-reserver
invariant-loop-reserver l = record {
  all : l.yielded ++ l.reserver-iterator.rest.items ≡ l.fn.reservers.items;
  seat : l.all.table_id ≡ l.word.shared.table_id;
  bare : l.all.me.1 ≡ [];
  records : l.all.me.0 ≡ map (λ (r : Reserver). r.own) l.yielded;
  floor : l.floor ≡ least_floor l.fn.top (map (λ (r : Reserver). r.own) l.yielded);
}
