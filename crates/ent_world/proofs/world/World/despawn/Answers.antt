use Rattle.ent_world.proofs.Common.{rules, ◌≡◌, sym, ◌∙◌, arith, get-insert_same, IsWorld, AreRows}
use Rattle.ent_world.proofs.Common.{with_moved, common_steps}
use Rattle.ent_world.proofs.PlacedRows.{rows-remove}
use Rattle.ent_world.proofs.Worlds.{room-after_free, after_despawn-world}
use Rattle.ent_world.proofs.world.World.despawn.Goals.{After-despawn_at, in-Some-despawn_at}
use Rattle.ent_world.proofs.world.World.despawn.Goals.{in_default-despawn_at}
use Rattle.ent_world.proofs.world.World.despawn.Goals as goal

-- the entity is gone, and its handle is free
gone : (c : After-despawn_at) → IsWorld (record {
  allocator = c.free.new.self.allocator;
  phase = c.self.inside.phase;
  entities = c.despawn_at.new.self.entities;
})
gone c =
    let flushed : c.self.inside.entities.allocator.asked ≡ 0 = grind (arith, common_steps) in
    rw (c.despawn_at.ensures.entities, c.in_ok-freed.ensures.ok)
    (after_despawn-world c.args.handle _ c.self.invariant.world flushed
    (c.self.invariant.world.living c.args.handle ∙ c.in_ok-freed.ensures.lived))

-- each row is a place still, once the entity that moved has its own
placed : (c : After-despawn_at)
    → AreRows (with_moved c.free.new.self.rows c.in-Some.row c.despawn_at.result)
    c.despawn_at.new.self.places c.despawn_at.new.self.entities
placed c =
    let here = (c.self.invariant.rows.at c.args.handle c.in-Some.row).0
    (sym c.row-row.ensures.value ∙ c.in-Some.is) in
    rw (c.despawn_at.ensures.entities, c.in_ok-freed.ensures.row)
    (search (rules, rows-remove, here))

pub set_row-requires : goal.set_row-requires
set_row-requires c =
    let at = (goal.at.set_row-requires c).After-despawn_at in
    let rows = rw c.in-Some-despawn_at.is at (placed at) in
    let is = gone at in
    search (
      rules,
      get-insert_same,
      rows.each c.in-Some-despawn_at.moved,
      is.living c.in-Some-despawn_at.moved,
    )

pub invariant_of-self-in-Some-despawn_at : goal.invariant_of-self-in-Some-despawn_at
invariant_of-self-in-Some-despawn_at c =
    let at = (goal.at.invariant_of-self-in-Some-despawn_at c).After-despawn_at in
    let rows = rw c.in-Some-despawn_at.is at (placed at) in
    rw (c.set_row.ensures.allocator, c.set_row.ensures.row)
    (record { world = gone at; rows = rows; room = search (rules, room-after_free) })

-- none moved
pub invariant_of-self-in_default-despawn_at : goal.invariant_of-self-in_default-despawn_at
invariant_of-self-in_default-despawn_at c =
    let at = (goal.at.invariant_of-self-in_default-despawn_at c).After-despawn_at in
    let rows = rw c.in_default-despawn_at.is at (placed at) in
    record { world = gone at; rows = rows; room = search (rules, room-after_free) }

pub returns-clause-world : goal.returns-clause-world
returns-clause-world c =
    let at = (goal.at.returns-clause-world c).After-despawn_at in
    elim c.match-despawn_at.branch [
      | in-Some-despawn_at w ↦ rw (w.self-is, w.set_row.ensures.allocator) (gone at)
      | in_default-despawn_at w ↦ rw w.self-is (gone at)
    ]
