use Rattle.ent_storage.proofs.Common.{rules}
use Rattle.ent_storage.proofs.Sparse.{some_slot, cloned_positioned, cloned, counted}
use Rattle.ent_storage.proofs.sparse_map.SparseMap.try_clone_from.Goals.{then-capacity-values-via-then-capacity-values}
use Rattle.ent_storage.proofs.sparse_map.SparseMap.try_clone_from.Goals.{then-capacity-values-via-else-capacity-values+then-capacity-slots}
use Rattle.ent_storage.proofs.sparse_map.SparseMap.try_clone_from.Goals as goal

pub returns-in_err-cloned-clause-memory : goal.returns-in_err-cloned-clause-memory
returns-in_err-cloned-clause-memory g c =
    let some = some_slot _ _ c.source.invariant in search (rules, some, c.source.view_is)

-- the new entries are clones of the source's
pub invariant_of-self-2 : goal.invariant_of-self-2
invariant_of-self-2 g c =
    cloned_positioned g.T.Clone.is_clone _ _ _ _ (search rules) c.source.invariant (search rules)

pub returns-clause-clones : goal.returns-clause-clones
returns-clause-clones g c = search (rules, cloned g.T.Clone.is_clone)

-- there was no room for the values: the clone has more
pub returns-then-capacity-values-clause-room_in_place :
    goal.returns-then-capacity-values-clause-room_in_place
returns-then-capacity-values-clause-room_in_place g c within =
    elim c.then-capacity-values.branch [
      | then-capacity-values-via-then-capacity-values w ↦
          let len = counted _ _ c.source.invariant in
          search (rules, len, c.source.view_is, c.self.view_is, c.drop.view_is)
      | then-capacity-values-via-else-capacity-values+then-capacity-slots w ↦
          search (rules, c.source.view_is, c.self.view_is)
    ]
