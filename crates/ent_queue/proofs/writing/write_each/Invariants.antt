use Rattle.ent_queue.proofs.Common.{◌≡◌, ◌+◌, ◌*◌, ◌≤◌, ◌++◌, ◌∷◌, take, length, vec_len, All}
use Rattle.ent_queue.proofs.Common.{vec_capacity, flat_map, handle_bytes, Handle, IsHandle}
use Rattle.ent_queue.proofs.writing.write_each.Given as goal

abbrev pub invariant-loop-handle : goal.invariant-loop-handle
invariant-loop-handle l = record {
  each : All IsHandle (take l.handle-index l.handles);
  items : l.bytes.items ≡ l.initial.bytes.items
      ++ flat_map (λ (h : Handle). l.kind ∷ (handle_bytes h ++ l.rest))
      (take l.handle-index l.handles);
  len : vec_len l.bytes ≡ vec_len l.initial.bytes + l.handle-index * (9 + length l.rest);
  capacity : vec_capacity l.initial.bytes ≤ vec_capacity l.bytes;
}
