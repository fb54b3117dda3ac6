use Rattle.ent_storage.proofs.Common.{◌≡◌, ◌≤◌, ◌∙◌, ap, ℕ, List, length, get_or, slice_get, Some}
use Rattle.ent_storage.proofs.Common.{arith, rules, nat_cmp, to_z-of_z, slice_get-get_or, Column}
use Rattle.ent_storage.proofs.Common.{IsDense, fin_from_entries, fin_get, fin_remove}
use Rattle.ent_storage.proofs.ElementsAt.{IsFilled, filled}
use Rattle.ent_storage.proofs.Dense.{has, pair_here, removed_values, popped_dense, refilled_dense}
use Rattle.ent_storage.proofs.Dense.{in_sparse}
use Rattle.ent_storage.proofs.sparse_set.SparseSet.remove.Goals.{After-swap_remove-value}
use Rattle.ent_storage.proofs.sparse_set.SparseSet.remove.Goals.{After-index, Else-position-len}
use Rattle.ent_storage.proofs.sparse_set.SparseSet.remove.Goals as goal

-- a pair of this place stood at the position
here : (c : After-swap_remove-value)
    → slice_get c.self.inside.dense.items c.in_ok-position.position
    ≡ Some (
      c.args.place,
      (get_or c.self.inside.dense.items c.in_ok-position.position c.swap_remove-value.result).1,
    )
here c =
    pair_here _ _ _ _ c.deref.ensures.value c.in_ok-position.ensures.inside
    c.in_ok-position.ensures.found c.swap_remove-value.result

-- and the last one has filled it
rest : (c : After-swap_remove-value) → IsFilled c.self.inside.dense.items c.in_ok-position.position
    c.swap_remove-value.new.self.items
rest c = search (rules, filled)

-- it had the value that is returned
value : (c : After-swap_remove-value)
    → Some c.swap_remove-value.result.1 ≡ fin_get c.args.self.now.values c.args.place
value c =
    let found =
    has c.self.inside.dense.items c.self.inside.sparse.items c.self.invariant
    c.in_ok-position.position
    c.args.place _ (here c) in
    search (rules, found, c.swap_remove-value.ensures.value, c.self.view_is)

-- what is left is as the map without the place, whatever the sparse vector has then
without : (c : After-swap_remove-value) (sparse : List ℕ)
    → IsDense c.swap_remove-value.new.self.items sparse
    → fin_from_entries {R = nat_cmp} c.swap_remove-value.new.self.items
    ≡ fin_remove c.args.self.now.values c.args.place
without c sparse dense =
    removed_values _ _ c.self.invariant _ c.args.place _ (here c) _ (rest c) sparse dense
    ∙ ap (λ (column : Column). fin_remove column.values c.args.place) c.self.view_is

-- the pair that now stands there
read : (c : After-index) → slice_get c.swap_remove-value.new.self.items c.in_ok-position.position
    ≡ Some c.index.result.now
read c = search (rules, slice_get-get_or)

-- the pair was the last
last : (c : Else-position-len)
    → length c.swap_remove-value.new.self.items ≤ c.in_ok-position.position
last c = omega (arith, c.if-position-len.false, c.len.ensures, c.swap_remove-value.new.self.ok.0)

-- the place of the pair that fills the hole
pub index_mut-requires : goal.index_mut-requires
index_mut-requires c =
    let at = goal.at.index_mut-requires c in
    let within = in_sparse _ _ c.self.invariant _ _ _ (here at.After-swap_remove-value) _
    (rest at.After-swap_remove-value) _ _ (read at.After-index) in
    search (rules, within)

pub invariant_of-self : goal.invariant_of-self
invariant_of-self c =
    let at = goal.at.invariant_of-self c in
    let here = here at.After-swap_remove-value in
    let rest = rest at.After-swap_remove-value in
    let read = read at.After-index in
    search (rules, refilled_dense, here, rest, read)

pub invariant_of-self-else-position-len : goal.invariant_of-self-else-position-len
invariant_of-self-else-position-len c =
    let at = goal.at.invariant_of-self-else-position-len c in
    let here = here at.After-swap_remove-value in
    search (rules, popped_dense, here, rest at.After-swap_remove-value, last at.Else-position-len)

pub returns-then-position-len : goal.returns-then-position-len
returns-then-position-len c =
    let at = (goal.at.returns-then-position-len c).After-swap_remove-value in
    record {
      value = search (rules, to_z-of_z, value);
      after =
          without at _
          (refilled_dense _ _ c.self.invariant _ c.args.place _ (here at) _ (rest at) _ _
          (read (goal.at.returns-then-position-len c).After-index));
      absent = search rules;
    }

pub returns-else-position-len : goal.returns-else-position-len
returns-else-position-len c =
    let at = (goal.at.returns-else-position-len c).After-swap_remove-value in
    record {
      value = search (rules, to_z-of_z, value);
      after = without at _ (popped_dense _ _ c.self.invariant _ c.args.place _ (here at) _ (rest at)
          (last (goal.at.returns-else-position-len c).Else-position-len));
      absent = search rules;
    }
