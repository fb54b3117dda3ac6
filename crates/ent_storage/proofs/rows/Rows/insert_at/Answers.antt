use Rattle.ent_storage.proofs.Common.{rules, with_items, missing}
use Rattle.ent_storage.proofs.Indexed.{some_entity}
use Rattle.ent_storage.proofs.Missing.{on_err}
use Rattle.ent_storage.proofs.Placed.{found_at, placed_at}
use Rattle.ent_storage.proofs.Changed.{IsChanged, changed}
use Rattle.ent_storage.proofs.rows.Rows.insert_at.Goals.{In_ok-insert}
use Rattle.ent_storage.proofs.rows.Rows.insert_at.Goals as goal

-- the entity has the new components
after : (c : In_ok-insert)
    → IsChanged c.args.self.now c.args.handle (λ held. with_items held c.args.items.now)
    c.insert.new.self.entities c.insert.new.self.room
after c =
    changed _ _ c.self.invariant _ _
    (placed_at _ _ _ _ c.self.invariant.indexed c.self.view_is _ _ c.requires) _ c.self.view_is _ _
    _ c.in_ok-insert.ensures.ok c.insert.ensures.room

-- memory was refused, for a component that is missing
pub returns-in_err-insert-clause-memory_to_grow : goal.returns-in_err-insert-clause-memory_to_grow
returns-in_err-insert-clause-memory_to_grow c =
    let at =
    found_at _ _ _ _ c.self.invariant.indexed c.self.view_is c.args.handle c.args.place
    c.requires in
    search (rules, on_err, at, c.in_err-insert.ensures.growing (some_entity c.args.handle))

pub returns : goal.returns
returns c = let now = after (goal.at.returns c).In_ok-insert in search (rules, now)

pub invariant_of-self-2 : goal.invariant_of-self-2
invariant_of-self-2 c =
    (after (goal.at.invariant_of-self-2 c).In_ok-insert).apart
