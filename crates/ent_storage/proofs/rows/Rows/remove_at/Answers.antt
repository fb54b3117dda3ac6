use Rattle.ent_storage.proofs.Common.{rules, fin_remove}
use Rattle.ent_storage.proofs.Indexed.{some_entity}
use Rattle.ent_storage.proofs.Placed.{found_at, placed_at}
use Rattle.ent_storage.proofs.Changed.{IsChanged, changed}
use Rattle.ent_storage.proofs.rows.Rows.remove_at.Goals.{After-remove}
use Rattle.ent_storage.proofs.rows.Rows.remove_at.Goals as goal

-- the entity has the new components
after : (c : After-remove)
    → IsChanged c.args.self.now c.args.handle (λ held. fin_remove held c.args.id)
    c.remove.new.self.entities c.remove.new.self.room
after c =
    changed _ _ c.self.invariant _ _
    (placed_at _ _ _ _ c.self.invariant.indexed c.self.view_is _ _ c.requires) _ c.self.view_is _ _
    _ c.remove.ensures.entities c.remove.ensures.room

-- the component is that of the entity
pub returns-clause-value : goal.returns-clause-value
returns-clause-value c =
    let at =
    found_at _ _ _ _ c.self.invariant.indexed c.self.view_is c.args.handle c.args.place
    c.requires in
    search (rules, at, c.remove.ensures.value (some_entity c.args.handle))

pub returns-clause-entities : goal.returns-clause-entities
returns-clause-entities c = (after (goal.at.returns-clause-entities c).After-remove).entities

pub returns-clause-spare : goal.returns-clause-spare
returns-clause-spare c = (after (goal.at.returns-clause-spare c).After-remove).spare

pub returns-clause-places : goal.returns-clause-places
returns-clause-places c = (after (goal.at.returns-clause-places c).After-remove).places

pub invariant_of-self : goal.invariant_of-self
invariant_of-self c =
    (after (goal.at.invariant_of-self c).After-remove).apart
