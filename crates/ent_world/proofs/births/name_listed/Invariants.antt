use Rattle.ent_world.proofs.Common.{◌≡◌, drop, named_queues}
use Rattle.ent_world.proofs.births.name_listed.Given as goal

-- what is left to name gives the whole
abbrev pub invariant-loop-system : goal.invariant-loop-system
invariant-loop-system l = record {
  named : named_queues (drop l.before l.fn.storage.places) l.phase l.system (drop l.system l.queues)
      l.storage.entities
      ≡ named_queues (drop l.before l.fn.storage.places) l.phase 0 l.queues l.fn.storage.entities;
  places : l.storage.places ≡ l.fn.storage.places;
  spare : l.storage.spare ≡ l.fn.storage.spare;
}
