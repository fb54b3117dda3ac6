use Rattle.ent_storage.proofs.Common.{rules, ◌≡◌, ◌≤◌, Some, refl, slice_get, length, arith}
use Rattle.ent_storage.proofs.Common.{slice_get-get_or, slice_get_read, slice_get_within, same_Some}
use Rattle.ent_storage.proofs.ElementsAt.{IsFilled, filled}
use Rattle.ent_storage.proofs.Sparse.{IsStanding, standing, in_positions, taken_values}
use Rattle.ent_storage.proofs.Sparse.{refilled_positioned, popped_positioned}
use Rattle.ent_storage.proofs.sparse_map.take.Given.{Over}
use Rattle.ent_storage.proofs.sparse_map.take.Goals.{After-index-position, After-swap_remove-value}
use Rattle.ent_storage.proofs.sparse_map.take.Goals.{After-index-then-position-len}
use Rattle.ent_storage.proofs.sparse_map.take.Goals.{Else-position-len}
use Rattle.ent_storage.proofs.sparse_map.take.Goals as goal

-- the entry of the handle is at the position
here : (g : Over) (c : After-index-position g) → IsStanding c.args.entries.now.items c.args.handle
    c.index-position.result.now
here g c =
    standing _ _ c.requires.positioned _ refl _ c.requires.has _ _ c.index.ensures
    c.index-position.ensures

-- the last one has filled its position
rest : (g : Over) (c : After-swap_remove-value g)
    → IsFilled c.args.entries.now.items c.index-position.result.now
    c.swap_remove-value.new.self.items
rest g c = search (rules, filled)

-- the entry that is there now
read : (g : Over) (c : After-index-then-position-len g)
    → slice_get c.swap_remove-value.new.self.items c.index-position.result.now
    ≡ Some c.index-then-position-len.result.now
read g c = search (rules, slice_get-get_or)

-- the entry was the last
last : (g : Over) (c : Else-position-len g)
    → length c.swap_remove-value.new.self.items ≤ c.index-position.result.now
last g c = omega (arith, c.if-position-len.false, c.len.ensures, c.swap_remove-value.new.self.ok.0)

pub swap_remove-value-requires : goal.swap_remove-value-requires
swap_remove-value-requires g c =
    let was = here g (goal.at.swap_remove-value-requires g c).After-index-position in
    search (rules, was, slice_get_within)

pub index_mut-requires : goal.index_mut-requires
index_mut-requires g c =
    let at = goal.at.index_mut-requires g c in
    search (
      rules,
      in_positions,
      here g at.After-index-position,
      rest g at.After-swap_remove-value,
      read g at.After-index-then-position-len,
    )

pub returns-then-position-len : goal.returns-then-position-len
returns-then-position-len g c =
    let at = goal.at.returns-then-position-len g c in
    let was = here g at.After-index-position in
    let rest = rest g at.After-swap_remove-value in
    let read = read g at.After-index-then-position-len in
    let positioned =
    refilled_positioned _ _ c.requires.positioned _ _ _ was.entry _ rest _ _ read in
    search (rules, positioned, taken_values, was, slice_get_read, slice_get_within, same_Some)

pub returns-else-position-len-clause-positioned : goal.returns-else-position-len-clause-positioned
returns-else-position-len-clause-positioned g c =
    let at = goal.at.returns-else-position-len-clause-positioned g c in
    search (
      rules,
      popped_positioned,
      here g at.After-index-position,
      rest g at.After-swap_remove-value,
      last g at.Else-position-len,
    )

pub returns-else-position-len-clause-value : goal.returns-else-position-len-clause-value
returns-else-position-len-clause-value g c =
    let was = here g (goal.at.returns-else-position-len-clause-value g c).After-index-position in
    search (rules, was, slice_get_read, slice_get_within, same_Some)

pub returns-else-position-len-clause-values : goal.returns-else-position-len-clause-values
returns-else-position-len-clause-values g c =
    let at = goal.at.returns-else-position-len-clause-values g c in
    search (
      rules,
      taken_values,
      popped_positioned,
      here g at.After-index-position,
      rest g at.After-swap_remove-value,
      last g at.Else-position-len,
    )
