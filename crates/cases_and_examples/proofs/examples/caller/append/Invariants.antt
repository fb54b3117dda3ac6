use Rattle.std.proofs.Common.{◌≡◌, ◌+◌, ◌≤◌, ◌++◌, length, vec_len}
use Rattle.std.specs.Vec.{vec_capacity}
use Rattle.cases_and_examples.proofs.examples.caller.append.Given as goal

-- what was appended so far, what is still to come, and room for it
abbrev pub invariant-loop-handle : goal.invariant-loop-handle
invariant-loop-handle l = record {
  all : l.yielded ++ l.handle-iterator ≡ l.fn.reply;
  appended : l.given.items ≡ l.initial.given.items ++ l.yielded;
  len : vec_len l.given ≡ vec_len l.initial.given + length l.yielded;
  room : vec_len l.given + length l.handle-iterator ≤ vec_capacity l.given;
}
