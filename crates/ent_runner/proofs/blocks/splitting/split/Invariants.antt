use Rattle.ent_runner.proofs.Common.{◌≡◌, ◌≤◌, ◌+◌, ◌++◌, length, map, vec_len, vec_capacity}
use Rattle.ent_runner.proofs.blocks.splitting.split.Given as goal

-- what was put so far, and room for the rest
abbrev pub invariant-loop-one : goal.invariant-loop-one
invariant-loop-one g l = record {
  all : l.yielded ++ l.one-iterator.rest.items ≡ l.fn.all.items;
  first : l.first.items ≡ map (λ one. one.0) l.yielded;
  second : l.second.items ≡ map (λ one. one.1) l.yielded;
  first_fits : vec_len l.first + length l.one-iterator.rest.items ≤ vec_capacity l.first;
  second_fits : vec_len l.second + length l.one-iterator.rest.items ≤ vec_capacity l.second;
}
