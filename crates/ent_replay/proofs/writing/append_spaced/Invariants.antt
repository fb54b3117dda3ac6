use Rattle.ent_replay.proofs.Common.{◌≡◌, ◌≤◌, ◌++◌, take, drop, vec_len, spaced, vec_capacity}
use Rattle.ent_replay.proofs.writing.append_spaced.Given as goal

abbrev pub invariant-loop-handle : goal.invariant-loop-handle
invariant-loop-handle l = record {
  told : l.out.items ++ spaced (drop l.handle-index l.handles) ≡ l.fn.out.items ++ spaced l.handles;
  kept : take (vec_len l.fn.out) l.out.items ≡ l.fn.out.items;
  capacity : vec_capacity l.fn.out ≤ vec_capacity l.out;
}
