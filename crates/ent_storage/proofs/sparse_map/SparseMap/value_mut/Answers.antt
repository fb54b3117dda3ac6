use Rattle.ent_storage.proofs.Common.{rules, ◌≡◌, ap, slice_get_read, slice_get_within, same_Some}
use Rattle.ent_storage.proofs.Common.{SparseMap}
use Rattle.ent_storage.proofs.Sparse.{IsStanding, standing, over_positioned, written_values}
use Rattle.ent_storage.proofs.sparse_map.SparseMap.value_mut.Given.{Over}
use Rattle.ent_storage.proofs.sparse_map.SparseMap.value_mut.Goals.{After-index-2}
use Rattle.ent_storage.proofs.sparse_map.SparseMap.value_mut.Goals as goal

-- the entry of the handle is at the position
here : (g : Over) (c : After-index-2 g)
    → IsStanding c.self.inside.entries.items c.args.handle c.index-2.result.now
here g c =
    let values = ap (λ (m : SparseMap g.row.T.Denot). m.values) c.self.view_is in
    standing _ _ c.self.invariant _ values _ c.requires _ _ c.index.ensures c.index-2.ensures

pub index_mut-requires : goal.index_mut-requires
index_mut-requires g c =
    let was = here g (goal.at.index_mut-requires g c).After-index-2 in
    search (rules, was, slice_get_within)

pub invariant_of-self-lent : goal.invariant_of-self-lent
invariant_of-self-lent g c w =
    let was = here g (goal.at.invariant_of-self-lent g c).After-index-2 in
    let is : c.index_mut.result.now ≡ (c.args.handle, was.v) = search
    (rules, was, slice_get_read, slice_get_within, same_Some) in
    search (rules, is, was, over_positioned)

pub returns : goal.returns
returns g c =
    let was = here g (goal.at.returns g c).After-index-2 in
    search (rules, was, slice_get_read, slice_get_within, same_Some, written_values)
