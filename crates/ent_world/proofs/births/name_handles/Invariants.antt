use Rattle.ent_world.proofs.Common.{◌≡◌, drop, birth_after, named_handles}
use Rattle.ent_world.proofs.births.name_handles.Given as goal

-- what is left to name gives the whole
abbrev pub invariant-loop-handle : goal.invariant-loop-handle
invariant-loop-handle l = record {
  named : named_handles (drop l.before l.fn.storage.places) l.birth l.handle-iterator
      l.storage.entities
      ≡ named_handles (drop l.before l.fn.storage.places) l.fn.first l.fn.handles
      l.fn.storage.entities;
  places : l.storage.places ≡ l.fn.storage.places;
  spare : l.storage.spare ≡ l.fn.storage.spare;
  next : birth_after l.birth l.handle-iterator ≡ birth_after l.fn.first l.fn.handles;
}
