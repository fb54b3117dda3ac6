use Rattle.ent_storage.proofs.Common.{rules, ap, sym, ◌∙◌, Column, slice_get-get_or, fin_get}
use Rattle.ent_storage.proofs.Dense.{has, at}
use Rattle.ent_storage.proofs.sparse_set.SparseSet.pairs.Goals as goal

pub returns-clause-has : goal.returns-clause-has
returns-clause-has c p v h =
    let k = rw c.deref.ensures.value at h in
    ap (λ (m : Column). fin_get m.values p) (sym c.self.view_is)
    ∙ has _ _ c.self.invariant k.0 p v (search (rules, slice_get-get_or))
