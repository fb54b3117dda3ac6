use Rattle.ent_world.proofs.Common.{◌≡◌, ◌+◌, ◌≤◌, ◌++◌, drop, length, no_system, with_born, AreNew}
use Rattle.ent_world.proofs.Common.{first_birth, with_rows}
use Rattle.ent_world.proofs.births.enter_all.Given as goal

-- what is left to enter gives the whole
abbrev pub invariant-loop-handle : goal.invariant-loop-handle
invariant-loop-handle l = record {
  new : AreNew (drop l.handle-index l.handles) l.storage.entities;
  room : length (drop l.handle-index l.handles) ≤ l.storage.spare;
  entered : with_born l.storage.entities (λ _. first_birth l.fn.phase no_system)
      (drop l.handle-index l.handles)
      ≡ with_born l.fn.storage.entities (λ _. first_birth l.fn.phase no_system) l.handles;
  spare : l.storage.spare + length l.handles
      ≡ l.fn.storage.spare + length (drop l.handle-index l.handles);
  row : l.row ≡ l.first + l.handle-index;
  rows : with_rows l.entities.rows l.row (drop l.handle-index l.handles)
      ≡ with_rows l.fn.entities.rows l.first l.handles;
  allocator : l.entities.allocator ≡ l.fn.entities.allocator;
  places : l.storage.places ++ drop l.handle-index l.handles ≡ l.fn.storage.places ++ l.handles;
}
