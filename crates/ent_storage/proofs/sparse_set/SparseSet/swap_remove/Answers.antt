use Rattle.ent_storage.proofs.Common.{arith, rules}
use Rattle.ent_storage.proofs.Dense.{removed_last, moved_down}
use Rattle.ent_storage.proofs.Keys.{get-remove_same}
use Rattle.ent_storage.proofs.sparse_set.SparseSet.swap_remove.Goals as goal

pub returns-else-place-last : goal.returns-else-place-last
returns-else-place-last c = removed_last _ _ _ _ c.remove.ensures.after (omega arith)

pub relocate-requires-clause-free : goal.relocate-requires-clause-free
relocate-requires-clause-free c = search (rules, get-remove_same)

pub returns-then-place-last : goal.returns-then-place-last
returns-then-place-last c = search (rules, moved_down)
