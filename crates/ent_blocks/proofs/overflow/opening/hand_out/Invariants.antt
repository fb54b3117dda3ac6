use Rattle.ent_blocks.proofs.Common.{◌≡◌, ◌+◌, ◌≤◌, length, take, vec_len, All, vec_capacity}
use Rattle.ent_blocks.proofs.Common.{IsCallerOf, IsFresh, own_blocks}
use Rattle.ent_blocks.specs.Overflow.{IsUnused}
use Rattle.ent_blocks.proofs.overflow.opening.hand_out.Given as goal

-- so far each block has a reserver, and there is one for each block that is left
abbrev pub invariant-loop-part : goal.invariant-loop-part
invariant-loop-part l = record {
  dealer : l.dealer ≡ l.initial.dealer;
  blocks : own_blocks l.callers.items ≡ take l.part-index l.parts;
  own : All (IsCallerOf (record { shared = l.shared; dealer = l.initial.dealer; blocks = l.parts }))
      l.callers.items;
  unused : All IsUnused l.callers.items;
  fresh : All (IsFresh l.shared) l.reservers.items;
  left : length l.reservers.items + l.part-index ≡ length l.parts;
  len : vec_len l.callers ≡ l.part-index;
  room : length l.parts ≤ vec_capacity l.callers;
}
