use Rattle.ent_world.proofs.Common.{records_of, history_of, IsWorld}
use Rattle.ent_world.proofs.Worlds.{top-after_history, after_history-world}
use Rattle.ent_world.proofs.open_world.OpenWorld.close.Goals.{After-close}
use Rattle.ent_world.proofs.open_world.OpenWorld.close.Goals as goal

-- the world that was opened, after the history of the phase
closed : (c : After-close) → IsWorld (record {
  allocator = c.close.result.allocator;
  phase = c.self.inside.phase;
  entities = c.self.inside.storage.entities;
})
closed c =
    rw c.close.ensures.after
    (after_history-world (history_of (records_of c.args.reservers.items)) _
    c.self.invariant.world.world)

pub invariant_of-result : goal.invariant_of-result
invariant_of-result c =
    let sound = c.self.invariant.world.world.sound in record {
      world = closed (goal.at.invariant_of-result c).After-close;
      rows = rw c.close.ensures.rows c.self.invariant.rows;
      room = rw (c.close.ensures.after, top-after_history) c.self.invariant.room;
    }

pub returns-clause-world : goal.returns-clause-world
returns-clause-world c = closed (goal.at.returns-clause-world c).After-close
