use Rattle.ent_storage.proofs.Common.{rules, ap, fin_get, ◌∙◌, Column, ℕ, ℤ}
use Rattle.ent_storage.proofs.Dense.{pair_here, renamed_dense, renamed_values, place_inside}
use Rattle.ent_storage.proofs.sparse_set.SparseSet.relocate.Goals as goal

pub index_mut-requires-in-Some : goal.index_mut-requires-in-Some
index_mut-requires-in-Some c =
    let here =
    pair_here _ _ _ _ c.deref.ensures.value c.in-Some.ensures.inside c.in-Some.ensures.found
    c.index_mut.result.now in
    search (rules, here, place_inside, c.self.view_is)

-- the pair that is written has the value that was read
pub invariant_of-self : goal.invariant_of-self
invariant_of-self c =
    let here =
    pair_here _ _ _ _ c.deref.ensures.value c.in-Some.ensures.inside c.in-Some.ensures.found
    _ in
    let free = ap (λ (m : Column). fin_get m.values c.args.to) c.self.view_is ∙ c.requires.free in
    let read = ap (λ (x : ℕ × ℤ). x.1) c.index_mut.ensures.value in
    rw read (renamed_dense _ _ c.self.invariant _ _ _ _ here free c.requires.before)

pub returns-in-Some : goal.returns-in-Some
returns-in-Some c =
    let here =
    pair_here _ _ _ _ c.deref.ensures.value c.in-Some.ensures.inside c.in-Some.ensures.found
    _ in
    let free = ap (λ (m : Column). fin_get m.values c.args.to) c.self.view_is ∙ c.requires.free in
    let read = ap (λ (x : ℕ × ℤ). x.1) c.index_mut.ensures.value in
    let old = ap (λ (m : Column). m.values) c.self.view_is in
    rw (← old, read) (renamed_values _ _ c.self.invariant _ _ _ _ here free c.requires.before)
