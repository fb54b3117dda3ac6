use Rattle.ent_world.proofs.Common.{◌≡◌, drop, no_system, first_birth, numbered}
use Rattle.ent_world.proofs.births.number_others.Given as goal

-- what is left to number gives the whole
abbrev pub invariant-loop-place : goal.invariant-loop-place
invariant-loop-place l = record {
  places : l.storage.places ≡ l.fn.storage.places;
  spare : l.storage.spare ≡ l.fn.storage.spare;
  numbered : numbered l.birth (drop l.place l.fn.storage.places) l.storage.entities
      ≡ numbered (first_birth l.phase no_system) l.handles l.fn.storage.entities;
}
