use Rattle.ent_storage.proofs.Common.{◌≡◌, ◌<◌, length, None, refl, rules, to_z-of_z, nat_cmp, w64}
use Rattle.ent_storage.proofs.Common.{fin_from_entries, fin_get}
use Rattle.ent_storage.proofs.Dense.{pair_here, over_values, pushed_dense, pushed_values}
use Rattle.ent_storage.proofs.sparse_set.SparseSet.set.Goals as goal

pub returns-in-Some : goal.returns-in-Some
returns-in-Some c =
    let is = to_z-of_z w64 c.args.value (search rules) in
    let here =
    pair_here _ _ _ _ c.deref.ensures.value c.in-Some.ensures.inside c.in-Some.ensures.found
    (c.args.place, c.args.value) in
    search (rules, is, over_values, here, c.self.view_is)

-- the place has no value
none_there : (c : goal.After-push_reserved)
    → fin_get (fin_from_entries {R = nat_cmp} c.self.inside.dense.items) c.args.place ≡ None
none_there c = rw c.deref.ensures.value at (c.in-None.ensures.absent refl)

in_sparse : (c : goal.After-push_reserved) → c.args.place < length c.self.inside.sparse.items
in_sparse c = search (rules, none_there)

pub invariant_of-self-in-None : goal.invariant_of-self-in-None
invariant_of-self-in-None c = search (rules, to_z-of_z, pushed_dense, none_there, in_sparse)

pub returns-in-None : goal.returns-in-None
returns-in-None c =
    let is = to_z-of_z w64 c.args.value (search rules) in
    let put =
    pushed_values c.self.inside.dense.items c.self.inside.sparse.items c.self.invariant
    c.args.place
    c.args.value (none_there c) (in_sparse c) in
    search (rules, is, put, c.push_reserved.ensures.items, c.self.view_is)
