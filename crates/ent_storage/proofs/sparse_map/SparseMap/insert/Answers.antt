use Rattle.ent_storage.proofs.Common.{rules}
use Rattle.ent_storage.proofs.Sparse.{full_for, none_free}
use Rattle.ent_storage.proofs.sparse_map.SparseMap.insert.Goals as goal

pub returns-clause-memory : goal.returns-clause-memory
returns-clause-memory g c e =
    let full = full_for _ _ c.self.invariant _ _ (c.put.ensures.memory e) in
    search (rules, full, c.self.view_is)

pub returns-clause-memory_for_a_new_slot : goal.returns-clause-memory_for_a_new_slot
returns-clause-memory_for_a_new_slot g c e q slot =
    let none =
    none_free _ _ c.self.invariant q (rw (← slot) at c.put.ensures.memory_for_a_new_slot e) in
    search (rules, none, c.self.view_is)
