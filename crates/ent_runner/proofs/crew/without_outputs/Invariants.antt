use Rattle.ent_runner.proofs.Common.{◌≡◌, ◌≤◌, vec_len, None, replicate, vec_capacity}
use Rattle.ent_runner.proofs.crew.without_outputs.Given as goal

abbrev pub invariant-loop : goal.invariant-loop
invariant-loop g l = record {
  items : l.by_number.items ≡ replicate l.counter None;
  count : vec_len l.by_number ≡ l.counter;
  room : l.count ≤ vec_capacity l.by_number;
}
