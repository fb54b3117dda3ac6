use Rattle.ent_world.proofs.Common.{◌≡◌, take, drop, applied, on_each, after_insert, IsRead}
use Rattle.ent_world.proofs.world.World.insert_each.Given as goal

-- the first ones have their components, which are still read
abbrev pub invariant-loop-done : goal.invariant-loop-done
invariant-loop-done l = record {
  flushed : l.self.allocator.asked ≡ 0;
  items : IsRead l.fn.bundle l.applying.items.items;
  left : l.left ≡ drop l.done l.fn.handles;
  so_far : applied l.self l.applying.faults.items ≡ on_each l.from.at.system l.from.at.command
      (after_insert l.fn.bundle) (drop l.from.done (take l.done l.fn.handles))
      (applied l.fn.self l.fn.applying.faults.items);
}
