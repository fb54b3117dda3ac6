use Rattle.ent_alloc.proofs.Common.{◌≡◌, ◌+◌, ◌≤◌, ◌++◌, take, drop, vec_len, vec_capacity, idle}
use Rattle.ent_alloc.proofs.Common.{slots_of, left_of, size_of, count_of}
use Rattle.ent_alloc.proofs.slots.Slots.append_left.Given as goal

-- what is still to come does the rest
abbrev pub invariant-loop-portion : goal.invariant-loop-portion
invariant-loop-portion l = record {
  items : l.order.items ++ take l.more (left_of (drop l.before (slots_of (idle l.self)))
      (drop l.portion-index l.portions))
      ≡ l.initial.order.items ++ take l.count (left_of (slots_of (idle l.self))
      l.portions);
  at : l.before + size_of (drop l.portion-index l.portions) ≡ size_of l.portions;
  enough : count_of (drop l.portion-index l.portions) + l.more
      ≤ size_of (drop l.portion-index l.portions);
  room : vec_len l.order + l.more ≤ vec_capacity l.order;
}
