use Rattle.ent_script.proofs.Common.{◌≡◌, ◌++◌, ◌+◌, ◌≤◌, length, both, with_operations}
use Rattle.std.specs.Prelude.{vec_len, vec_capacity}
use Rattle.std.specs.Vec.Iter.{into_iter_items, into_iter_len}
use Rattle.ent_script.proofs.merging.both_frames.Given as goal

abbrev pub invariant-loop-frame : goal.invariant-loop-frame
invariant-loop-frame l = record {
  put : l.all.items ++ both (both with_operations) l.frame-iterator.rest.items (into_iter_items l.others)
      ≡ both (both with_operations) l.fn.frames.items l.fn.others.items;
  len : into_iter_len l.others ≡ length (into_iter_items l.others);
  room : vec_len l.all + length l.frame-iterator.rest.items ≤ vec_capacity l.all;
}
