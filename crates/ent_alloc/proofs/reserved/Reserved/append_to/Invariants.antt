use Rattle.ent_alloc.proofs.Common.{◌≡◌, ◌+◌, ◌-◌, ◌≤◌, ◌++◌, length, drop, vec_len, vec_capacity}
use Rattle.ent_alloc.proofs.Common.{fresh, handles_of}
use Rattle.ent_alloc.proofs.reserved.Reserved.append_to.Given as goal

-- what was appended and what is still to come are all, and there is room for the rest
abbrev pub invariant-loop-index : goal.invariant-loop-index
invariant-loop-index l = record {
  items : l.handles.items ++ handles_of l.records (drop l.index-index l.index-items)
      l.self-inside.index l.self-inside.index_end
      ≡ l.fn.handles.items ++ l.fn.self;
  room : vec_len l.handles + ((length l.index-items - l.index-index)
      + (l.self-inside.index_end - l.self-inside.index)) ≤ vec_capacity l.handles;
  capacity : vec_capacity l.handles ≡ vec_capacity l.fn.handles;
}

-- the same, where no slot waits any more
abbrev pub invariant-loop-index-2 : goal.invariant-loop-index-2
invariant-loop-index-2 l = record {
  items : l.handles.items ++ fresh l.index (l.index-end - l.index)
      ≡ l.fn.handles.items ++ l.fn.self;
  room : vec_len l.handles + (l.index-end - l.index) ≤ vec_capacity l.handles;
  capacity : vec_capacity l.handles ≡ vec_capacity l.fn.handles;
}
