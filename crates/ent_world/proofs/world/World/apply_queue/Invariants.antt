use Rattle.ent_world.proofs.Common.{◌≡◌, take, drop, applied, after_commands, left_commands}
use Rattle.ent_world.proofs.world.World.apply_queue.Given as goal

-- the first ones are applied
abbrev pub invariant-loop-command : goal.invariant-loop-command
invariant-loop-command l = record {
  flushed : l.self.allocator.asked ≡ 0;
  left : l.entries ≡ drop l.command l.queue;
  so_far : applied l.self l.applying.faults.items
      ≡ after_commands l.from.at.system l.from.at.command
      (left_commands l.from.at.command l.from.done (take l.command l.queue))
      (applied l.fn.self l.fn.applying.faults.items);
}
