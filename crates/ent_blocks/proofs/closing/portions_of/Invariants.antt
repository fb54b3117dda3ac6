use Rattle.ent_blocks.proofs.Common.{◌≡◌, ◌≤◌, ◌++◌, drop, length, vec_len, vec_capacity, AreUsed}
use Rattle.ent_blocks.proofs.Common.{portions_of}
use Rattle.ent_blocks.proofs.closing.portions_of.Given as goal

-- what is still to come does the rest
abbrev pub invariant-loop-block : goal.invariant-loop-block
invariant-loop-block l = record {
  items : l.portions.items ++ portions_of (drop l.block-index l.blocks) ≡ portions_of l.blocks;
  used : AreUsed l.portions.items;
  len : vec_len l.portions ≡ l.block-index;
  room : length l.blocks ≤ vec_capacity l.portions;
}
