use Rattle.ent_blocks.proofs.Common.{◌≡◌, ◌≤◌, ◌++◌, drop, length, map, vec_len, vec_capacity}
use Rattle.ent_blocks.proofs.Common.{accounted}
use Rattle.ent_blocks.proofs.accounting.account.Given as goal

-- what is still to come does the rest
abbrev pub invariant-loop-part : goal.invariant-loop-part
invariant-loop-part g l = record {
  items : l.all.items ++ accounted (drop l.part-index l.parts)
      (drop l.next (map g.H.Held.block l.held))
      ≡ accounted l.parts (map g.H.Held.block l.held);
  within : l.next ≤ length l.held;
  len : vec_len l.all ≡ l.part-index;
  room : length l.parts ≤ vec_capacity l.all;
  same_room : vec_capacity l.all ≡ vec_capacity l.initial.all;
}
