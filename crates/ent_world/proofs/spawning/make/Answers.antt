use Rattle.ent_world.proofs.Common.{sym, ap, ◌∙◌, inr, newborn, with_components, with_items}
use Rattle.ent_world.proofs.Common.{EntityMap}
use Rattle.std.specs.FinMap as map
use Rattle.ent_world.proofs.PlacedRows.{on_ok, on_err, made_whole, some_items}
use Rattle.ent_world.proofs.spawning.make.Goals as goal

pub returns-then-is_err-clause-memory : goal.returns-then-is_err-clause-memory
returns-then-is_err-clause-memory c =
    inr
    (some_items c.reserve.new.self.entities c.push.new.self.entities c.args.handle c.args.birth
    c.args.items.now c.push.ensures.entities
    (on_err c.insert_at.result (sym c.is_err.ensures.value ∙ c.if-is_err.true)
    c.insert_at.ensures.memory_to_grow))

-- the new one was given its components
pub returns-clause-ok : goal.returns-clause-ok
returns-clause-ok c =
    let made = c.push.ensures.entities
    ∙ ap (λ (m : EntityMap). map.insert m c.args.handle (newborn c.args.birth))
    c.reserve.ensures.entities in
    let filled =
    on_ok c.insert_at.result (sym c.is_err.ensures.value ∙ c.if-is_err.false)
    c.insert_at.ensures.ok in
    filled
    ∙ ap
    (λ (m : EntityMap).
    with_components m c.args.handle (λ held. with_items held c.args.items.now)) made
    ∙ made_whole c.args.storage.now.entities c.args.handle c.args.birth c.args.items.now
