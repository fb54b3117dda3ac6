use Rattle.ent_storage.proofs.Common.{ap, with_birth, ◌∙◌, Store}
use Rattle.ent_storage.proofs.Placed.{placed_at}
use Rattle.ent_storage.proofs.Changed.{reborn_entities, reborn_handles, reborn_apart}
use Rattle.ent_storage.proofs.rows.Rows.set_birth_at.Goals as goal

pub invariant_of-self : goal.invariant_of-self
invariant_of-self c =
    let placed = placed_at _ _ _ _ c.self.invariant.indexed c.self.view_is _ _ c.requires in
    rw (c.set_birth.ensures.entities, c.set_birth.ensures.room)
    (reborn_apart _ _ c.self.invariant _ _ placed _)

-- the entity has the new birth
pub returns-clause-entities : goal.returns-clause-entities
returns-clause-entities c =
    let placed = placed_at _ _ _ _ c.self.invariant.indexed c.self.view_is _ _ c.requires in
    rw c.set_birth.ensures.entities (reborn_entities _ _ c.self.invariant _ _ placed _)
    ∙ ap (λ (s : Store). with_birth s.entities c.args.handle c.args.birth) c.self.view_is

-- no handle is changed
pub returns-clause-places : goal.returns-clause-places
returns-clause-places c =
    let placed = placed_at _ _ _ _ c.self.invariant.indexed c.self.view_is _ _ c.requires in
    rw c.set_birth.ensures.entities (reborn_handles _ _ c.self.invariant _ _ placed _)
    ∙ ap (λ (s : Store). s.places) c.self.view_is
