use Rattle.ent_alloc.proofs.Common.{◌≡◌, ◌≤◌, ◌+◌, ◌++◌, drop, vec_len, vec_capacity, idle}
use Rattle.ent_alloc.proofs.Common.{slots_of, used_of, size_of, count_of}
use Rattle.ent_alloc.proofs.slots.Slots.append_used.Given as goal

-- what is still to come does the rest
abbrev pub invariant-loop-portion : goal.invariant-loop-portion
invariant-loop-portion l = record {
  items : l.order.items ++ used_of (drop l.before (slots_of (idle l.self)))
      (drop l.portion-index l.portions)
      ≡ l.initial.order.items ++ used_of (slots_of (idle l.self)) l.portions;
  at : l.before + size_of (drop l.portion-index l.portions) ≡ size_of l.portions;
  len : vec_len l.order + count_of (drop l.portion-index l.portions)
      ≡ vec_len l.initial.order + count_of l.portions;
  capacity : vec_capacity l.initial.order ≤ vec_capacity l.order;
}
