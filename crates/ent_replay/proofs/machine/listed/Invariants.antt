use Rattle.ent_replay.proofs.Common.{◌≡◌, ◌+◌, ◌≤◌, ◌++◌, length, vec_len, vec_capacity}
use Rattle.ent_replay.proofs.machine.listed.Given as goal

-- what is listed and what is left are the reply, and there is room for the rest
abbrev pub invariant-loop-handle : goal.invariant-loop-handle
invariant-loop-handle l = record {
  items : l.handles.items ++ l.handle-iterator ≡ l.fn.reserved;
  room : vec_len l.handles + length l.handle-iterator ≤ vec_capacity l.handles;
}
