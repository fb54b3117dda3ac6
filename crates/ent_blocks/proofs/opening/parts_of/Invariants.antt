use Rattle.ent_blocks.proofs.Common.{◌≡◌, ◌+◌, ◌≤◌, ◌++◌, length, drop, vec_len, vec_capacity}
use Rattle.ent_blocks.proofs.Common.{blocks_from, dealt}
use Rattle.ent_blocks.proofs.opening.parts_of.Given as goal

-- what is still to come does the rest
abbrev pub invariant-loop-size : goal.invariant-loop-size
invariant-loop-size l = record {
  blocks : l.parts.items ++ blocks_from l.before l.left (drop l.size-index l.sizes)
      ≡ blocks_from 0 (length l.entities.allocator.pool) l.sizes;
  all : l.before + l.left ≡ length l.entities.allocator.pool;
  dealt_is : dealt l.parts.items ≡ l.before;
  len : vec_len l.parts ≡ l.size-index;
  room : length l.sizes ≤ vec_capacity l.parts;
}
