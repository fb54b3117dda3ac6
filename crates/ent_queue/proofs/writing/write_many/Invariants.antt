use Rattle.ent_queue.proofs.Common.{◌≡◌, ◌+◌, ◌*◌, ◌≤◌, ◌++◌, length, vec_len, vec_capacity, All}
use Rattle.ent_queue.proofs.Common.{flat_map, IsHandle, handle_bytes}
use Rattle.ent_queue.proofs.writing.write_many.Given as goal

abbrev pub invariant-loop-handle : goal.invariant-loop-handle
invariant-loop-handle l = record {
  all : l.yielded ++ l.handle-iterator ≡ l.fn.given;
  handles : l.handles.items ≡ l.initial.handles.items ++ l.yielded;
  spare : vec_capacity l.handles ≡ vec_capacity l.initial.handles;
  each : All IsHandle l.yielded;
  items : l.bytes.items ≡ l.initial.bytes.items ++ flat_map handle_bytes l.yielded;
  len : vec_len l.bytes ≡ vec_len l.initial.bytes + 8 * length l.yielded;
  capacity : vec_capacity l.initial.bytes ≤ vec_capacity l.bytes;
}
