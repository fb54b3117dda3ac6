use Rattle.ent_storage.proofs.Common.{rules, to_z-of_z}
use Rattle.ent_storage.proofs.Dense.{has, pair_here}
use Rattle.ent_storage.proofs.sparse_set.SparseSet.get.Goals as goal

pub returns : goal.returns
returns c =
    let here =
    pair_here _ _ _ _ c.deref.ensures.value c.in_ok-position.ensures.inside
    c.in_ok-position.ensures.found
    c.index.result.now in
    let found = has _ _ c.self.invariant _ _ _ here in
    search (rules, c.index.ensures, c.index.result.now.1, to_z-of_z, c.args.place, c.self.view_is)
