use Rattle.ent_storage.proofs.Common.{◌≡◌, None, ap, ◌∙◌, arith, fin_empty, fin_get}
use Rattle.ent_storage.proofs.Common.{fin_insert, LivingEntity, Store, map_of}
use Rattle.ent_storage.specs.EntityMap.{newborn}
use Rattle.ent_storage.proofs.Apart.{apart_push, no_place}
use Rattle.ent_storage.proofs.Indexed.{entities_push}
use Rattle.ent_storage.proofs.rows.Rows.push.Goals as goal

-- the handle is new, and there is room
pub invariant_of-self : goal.invariant_of-self
invariant_of-self c =
    let entity : LivingEntity =
    record { handle = c.args.handle; birth = c.args.birth; components = fin_empty } in
    let spare = ap (λ (s : Store). s.spare) c.self.view_is in
    let new : fin_get (map_of c.self.inside.living.entities) c.args.handle ≡ None =
    ap (λ (s : Store). fin_get s.entities c.args.handle) c.self.view_is ∙ c.requires.new in
    rw (c.push.ensures.entities, c.push.ensures.room)
    (apart_push _ _ c.self.invariant entity new (omega arith))

pub returns-clause-entities : goal.returns-clause-entities
returns-clause-entities c =
    let entity : LivingEntity =
    record { handle = c.args.handle; birth = c.args.birth; components = fin_empty } in
    let new : fin_get (map_of c.self.inside.living.entities) c.args.handle ≡ None =
    ap (λ (s : Store). fin_get s.entities c.args.handle) c.self.view_is ∙ c.requires.new in
    rw c.push.ensures.entities
    (entities_push _ _ c.self.invariant.indexed entity
    (no_place _ _ c.self.invariant c.args.handle new))
    ∙ ap (λ (s : Store). fin_insert s.entities c.args.handle (newborn c.args.birth))
    c.self.view_is
