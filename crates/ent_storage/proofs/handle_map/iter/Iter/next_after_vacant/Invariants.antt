use Rattle.ent_storage.proofs.Common.{◌≡◌, length, iter_rest, entries_from, AreCounted}
use Rattle.ent_storage.proofs.handle_map.iter.Iter.next_after_vacant.Given as goal

-- only vacant slots were passed
abbrev pub invariant-loop-slot : goal.invariant-loop-slot
invariant-loop-slot g l =
    AreCounted l.self-inside.index (iter_rest l.self-inside.slots) l.self-inside.left
    × (entries_from l.self-inside.index (iter_rest l.self-inside.slots) ≡ l.fn.self)

abbrev pub decreases-loop-slot : goal.decreases-loop-slot
decreases-loop-slot g l = length (iter_rest l.self-inside.slots)
