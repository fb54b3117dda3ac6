use Rattle.ent_blocks.proofs.Common.{◌≡◌, ◌+◌, ◌≤◌, ◌++◌, length, vec_len, vec_capacity, past_of}
use Rattle.ent_blocks.proofs.overflow.phase.take_past.Given as goal

-- those that came so far
abbrev pub invariant-loop-caller : goal.invariant-loop-caller
invariant-loop-caller l = record {
  all : l.yielded ++ l.caller-iterator.rest.items ≡ l.fn.callers.items;
  reservers : l.reservers.items ≡ l.initial.reservers.items ++ past_of l.yielded;
  fit : vec_len l.reservers + length l.caller-iterator.rest.items ≤ vec_capacity l.reservers;
}
