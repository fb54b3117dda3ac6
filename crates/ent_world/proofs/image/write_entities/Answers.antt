use Rattle.ent_world.proofs.Common.{flat_map-cons, rules, ◌≡◌, ◌<◌, ◌∷◌, arith, IfSome, IsSomeAnd}
use Rattle.ent_world.proofs.Common.{is_some, true, w64, FitsSigned, append_assoc, All-tail}
use Rattle.ent_world.proofs.Common.{All-cons, Handle, ComponentId, birth_of, value_of, IsBirth}
use Rattle.std.specs.FinMap as map
use Rattle.ent_world.proofs.image.write_entities.Goals as goal

pub loop-handle-preserved : goal.loop-handle-preserved
loop-handle-preserved c =
    let loop = c.loop-handle.invariant in
    let entities = c.args.storage.now.entities in
    let h = c.in-Some.handle in
    let left = c.next.new.self in
    let step : c.loop-handle.handle-iterator ≡ h ∷ left = c.in-Some.ensures.steps in
    let HasRow : Handle → Type 0 = λ g. is_some (map.get c.args.entities.now.rows g) ≡ true in
    let HasBirth : Handle → Type 0 = λ g. IsSomeAnd (birth_of entities g) IsBirth in
    let HasValues : Handle → Type 0 = λ g. (id : ComponentId) → id.0 < c.args.width
    → IfSome (value_of entities g id) (FitsSigned w64) in
    let room = rw step at loop.room in
    record {
      placed = All-tail HasRow h left (rw step at loop.placed);
      room = omega (arith, room, c.write_entity.ensures.len, c.write_entity.ensures.capacity);
      items = search (rules, append_assoc, flat_map-cons);
      births =
          λ all. loop.births (rw step (All-cons HasBirth h left c.write_entity.ensures.birth all));
      values =
          λ all.
          loop.values (rw step (All-cons HasValues h left c.write_entity.ensures.values all));
    }
