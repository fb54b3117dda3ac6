use Rattle.ent_runner.proofs.Common.{◌≤◌, ◌+◌, length, vec_capacity, vec_len, AreCollected}
use Rattle.ent_runner.proofs.crew.collecting.collect.Given as goal

-- what was moved, and what is still to be moved
abbrev pub invariant-loop-made : goal.invariant-loop-made
invariant-loop-made g l = record {
  same : AreCollected l.fn.by_number.items l.made-iterator.rest.items l.outputs.items;
  room : vec_len l.outputs + length l.made-iterator.rest.items ≤ vec_capacity l.outputs;
}
