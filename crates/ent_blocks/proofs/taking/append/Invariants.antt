use Rattle.ent_blocks.proofs.Common.{◌≡◌, ◌≤◌, ◌+◌, ◌++◌, length, vec_len, vec_capacity}
use Rattle.ent_blocks.proofs.taking.append.Given as goal

abbrev pub invariant-loop-handle : goal.invariant-loop-handle
invariant-loop-handle l = record {
  all : l.yielded ++ l.handle-iterator ≡ l.fn.given;
  items : l.handles.items ≡ l.initial.handles.items ++ l.yielded;
  room : vec_len l.handles + length l.handle-iterator ≤ vec_capacity l.handles;
}
