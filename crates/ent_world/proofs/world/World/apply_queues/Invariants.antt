use Rattle.ent_world.proofs.Common.{◌≡◌, take, applied, after_left}
use Rattle.ent_world.proofs.world.World.apply_queues.Given as goal

-- the first ones are applied
abbrev pub invariant-loop-system : goal.invariant-loop-system
invariant-loop-system l = record {
  flushed : l.self.allocator.asked ≡ 0;
  so_far : applied l.self l.applying.faults.items
      ≡ after_left l.from.at.system l.from.at.command l.from.done (take l.system l.queues)
      (applied l.fn.self l.fn.applying.faults.items);
}
