use Rattle.ent_world.proofs.Common.{same_Some, arith, rules, ◌≡◌, sym, ◌∙◌, length, common_steps}
use Rattle.ent_world.proofs.Common.{at_pushed, IsWorld, spawned}
use Rattle.ent_world.proofs.Born.{no_entity}
use Rattle.ent_world.proofs.PlacedRows.{get_inserted, taken_back, end_taken_back, rows-count}
use Rattle.ent_world.proofs.PlacedRows.{rows-insert}
use Rattle.ent_world.proofs.Worlds.{room-after_alloc, after_spawn-world}
use Rattle.ent_world.proofs.world.World.spawn.Goals.{After-items, After-despawn_at, In_default}
use Rattle.ent_world.proofs.world.World.spawn.Goals as goal

-- the next place is the number of those that live
next_place : (c : After-items) → c.len-row.result ≡ length c.self.inside.storage.places
next_place c = c.len-row.ensures
    ∙ rows-count c.self.inside.entities.allocator c.self.invariant.rows
    c.self.invariant.world.living

pub make-requires-clause-next : goal.make-requires-clause-next
make-requires-clause-next c = search (rules, next_place)

pub despawn_at-requires : goal.despawn_at-requires
despawn_at-requires c = grind (arith, common_steps, next_place, at_pushed)

-- the entity that was made is taken back
back : (c : After-despawn_at) → c.despawn_at.new.self.entities ≡ c.self.inside.storage.entities
back c = search (rules, no_entity, taken_back)

pub invariant_of-self-in-Err : goal.invariant_of-self-in-Err
invariant_of-self-in-Err c =
    let gone = back (goal.at.invariant_of-self-in-Err c).After-despawn_at in
    let places : c.despawn_at.new.self.places ≡ c.self.inside.storage.places = search
    (rules, next_place, end_taken_back) in
    rw (c.in-Err.ensures.err, gone, places) (search (rules, c.self.invariant))

pub returns-in-Err : goal.returns-in-Err
returns-in-Err c =
    let gone = back (goal.at.returns-in-Err c).After-despawn_at in
    search (rules, gone, c.in-Err.ensures.err)

-- the handle that the allocator gave is the one under which the entity was made
grown : (c : In_default) → IsWorld (record {
  allocator = c.alloc.new.self.allocator;
  phase = c.self.inside.phase;
  entities = c.make.new.storage.entities;
})
grown c =
    let same = same_Some _ _ (sym c.in_default.ensures.front ∙ c.in_ok-handle.ensures.front) in
    rw (c.in_ok-make.ensures.ok, c.in_default.ensures.ok, same)
    (after_spawn-world c.args.birth c.items.result.now c.in_ok-handle.handle _
    c.self.invariant.world
    c.in_ok-handle.ensures.flushed c.in_ok-handle.ensures.front)

-- it lives
pub set_row-requires : goal.set_row-requires
set_row-requires c =
    let lives = (grown (goal.at.set_row-requires c).In_default).living c.in_ok-handle.handle in
    search (rules, lives, get_inserted)

pub invariant_of-self-2 : goal.invariant_of-self-2
invariant_of-self-2 c =
    let i = c.self.invariant in
    let given = c.in_ok-handle in
    let same = same_Some _ _ (sym c.in_default.ensures.front ∙ given.ensures.front) in
    let next =
    c.len-row.ensures ∙ rows-count c.self.inside.entities.allocator i.rows i.world.living in
    rw (c.set_row.ensures.allocator, c.set_row.ensures.row) (record {
      world = grown (goal.at.invariant_of-self-2 c).In_default;
      -- its row is the next place
      rows = rw (c.alloc.ensures.rows, next, c.in_ok-make.ensures.placed, c.in_ok-make.ensures.ok)
          (rows-insert given.handle (spawned c.args.birth c.items.result.now) i.rows
          (i.world.living given.handle ∙ given.ensures.new));
      -- as many more fit as slots wait
      room =
          rw (c.in_default.ensures.ok, same)
          (room-after_alloc c.self.inside.entities.allocator given.handle _ _ i.world.sound
          given.ensures.flushed given.ensures.front i.room c.in_ok-make.ensures.less);
    })

pub returns-clause-world : goal.returns-clause-world
returns-clause-world c =
    rw c.set_row.ensures.allocator (grown (goal.at.returns-clause-world c).In_default)
