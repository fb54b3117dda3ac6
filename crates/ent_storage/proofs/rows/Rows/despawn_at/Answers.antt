use Rattle.ent_storage.proofs.Common.{rules, arith, length-map, slice_get_past, ap, fin_remove, ◌∙◌}
use Rattle.ent_storage.proofs.Common.{Store}
use Rattle.ent_storage.proofs.Apart.{apart_left, left_entities}
use Rattle.ent_storage.proofs.Indexed.{some_entity}
use Rattle.ent_storage.proofs.Placed.{placed_at, from_place, places_without}
use Rattle.ent_storage.proofs.rows.Rows.despawn_at.Goals as goal

pub invariant_of-self : goal.invariant_of-self
invariant_of-self c =
    let placed = placed_at _ _ _ _ c.self.invariant.indexed c.self.view_is _ _ c.requires in
    rw c.swap_remove.ensures.room
    (apart_left _ _ c.self.invariant _ _ placed _ c.swap_remove.ensures.entities)

pub returns-then-place-len-clause-entities : goal.returns-then-place-len-clause-entities
returns-then-place-len-clause-entities c =
    let placed = placed_at _ _ _ _ c.self.invariant.indexed c.self.view_is _ _ c.requires in
    left_entities _ _ c.self.invariant _ _ placed _ c.swap_remove.ensures.entities
    ∙ ap (λ (s : Store). fin_remove s.entities c.args.handle) c.self.view_is

pub returns-then-place-len-clause-places : goal.returns-then-place-len-clause-places
returns-then-place-len-clause-places c =
    places_without _ _ _ _ c.self.invariant.indexed c.self.view_is _ _ c.requires _
    c.swap_remove.ensures.entities

-- it was the last one
pub returns-then-place-len-clause-moved : goal.returns-then-place-len-clause-moved
returns-then-place-len-clause-moved c = search (rules, arith, slice_get_past, length-map)

pub invariant_of-self-2 : goal.invariant_of-self-2
invariant_of-self-2 c =
    let placed = placed_at _ _ _ _ c.self.invariant.indexed c.self.view_is _ _ c.requires in
    rw c.swap_remove.ensures.room
    (apart_left _ _ c.self.invariant _ _ placed _ c.swap_remove.ensures.entities)

pub returns-clause-entities : goal.returns-clause-entities
returns-clause-entities c =
    let placed = placed_at _ _ _ _ c.self.invariant.indexed c.self.view_is _ _ c.requires in
    left_entities _ _ c.self.invariant _ _ placed _ c.swap_remove.ensures.entities
    ∙ ap (λ (s : Store). fin_remove s.entities c.args.handle) c.self.view_is

pub returns-clause-places : goal.returns-clause-places
returns-clause-places c =
    places_without _ _ _ _ c.self.invariant.indexed c.self.view_is _ _ c.requires _
    c.swap_remove.ensures.entities

pub returns-clause-moved : goal.returns-clause-moved
returns-clause-moved c =
    let is = c.handle.ensures (some_entity c.args.handle) in search (rules, from_place, is)
