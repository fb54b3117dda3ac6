use Rattle.ent_script.proofs.Common.{◌≡◌, ◌++◌, ◌+◌, ◌≤◌, length, both, with_operations}
use Rattle.std.specs.Prelude.{vec_len, vec_capacity}
use Rattle.std.specs.Vec.Iter.{into_iter_items, into_iter_len}
use Rattle.ent_script.proofs.merging.both_systems.Given as goal

abbrev pub invariant-loop-system : goal.invariant-loop-system
invariant-loop-system l = record {
  put : l.all.items ++ both with_operations l.system-iterator.rest.items (into_iter_items l.others)
      ≡ both with_operations l.fn.systems.items l.fn.others.items;
  len : into_iter_len l.others ≡ length (into_iter_items l.others);
  room : vec_len l.all + length l.system-iterator.rest.items ≤ vec_capacity l.all;
}
