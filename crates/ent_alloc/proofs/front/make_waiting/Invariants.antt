use Rattle.ent_alloc.proofs.Common.{◌≡◌, ◌+◌, ◌++◌, vec_len, vec_capacity, range_with_len}
use Rattle.ent_alloc.proofs.Common.{new_waiting}
use Rattle.ent_alloc.proofs.front.make_waiting.Given as goal

abbrev pub invariant-loop-more : goal.invariant-loop-more
invariant-loop-more l = record {
  made : l.records.items ≡ l.initial.records.items ++ new_waiting l.waiting l.more;
  listed : l.pending.items ≡ l.initial.pending.items ++ range_with_len l.made l.more;
  len : vec_len l.records ≡ l.made + l.more;
  list_len : vec_len l.pending ≡ l.waiting + l.more;
  capacity : vec_capacity l.records ≡ vec_capacity l.initial.records;
  list_capacity : vec_capacity l.pending ≡ vec_capacity l.initial.pending;
}
