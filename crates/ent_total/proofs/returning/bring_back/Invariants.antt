use Rattle.ent_total.proofs.Common.{◌≡◌, ◌≤◌, ◌+◌, ◌++◌, length, vec_len, vec_capacity, AreOf}
use Rattle.ent_total.proofs.Common.{reservers_of, All}
use Rattle.ent_total.proofs.returning.bring_back.Given as goal

-- those that came so far
abbrev pub invariant-loop-reserver : goal.invariant-loop-reserver
invariant-loop-reserver g l = record {
  all : l.yielded ++ l.reserver-iterator.rest.items ≡ l.fn.reservers.items;
  items : l.returned.items ≡ l.initial.returned.items ++ reservers_of l.yielded;
  own : All (g.S.Source.serves l.fn.source) l.returned.items;
  of : AreOf l.fn.number l.reserver-iterator.rest.items;
  room : vec_len l.returned + length l.reserver-iterator.rest.items ≤ vec_capacity l.returned;
  capacity : vec_capacity l.returned ≡ vec_capacity l.initial.returned;
}
