use Rattle.ent_world.proofs.Common.{◌≡◌, ◌+◌, drop, with_rows}
use Rattle.ent_world.proofs.rows.set_rows.Given as goal

-- what is left to keep gives the whole
abbrev pub invariant-loop-handle : goal.invariant-loop-handle
invariant-loop-handle l = record {
  row : l.row ≡ l.first + l.handle-index;
  rows : with_rows l.entities.rows l.row (drop l.handle-index l.handles)
      ≡ with_rows l.fn.entities.rows l.first l.handles;
  allocator : l.entities.allocator ≡ l.fn.entities.allocator;
}
