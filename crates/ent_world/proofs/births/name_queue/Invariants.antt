use Rattle.ent_world.proofs.Common.{◌≡◌, drop, handles_listed, named_handles}
use Rattle.ent_world.proofs.births.name_queue.Given as goal

-- what is left to name gives the whole
abbrev pub invariant-loop-entry : goal.invariant-loop-entry
invariant-loop-entry l = record {
  named : named_handles (drop l.before l.fn.storage.places) l.next (handles_listed l.entry-iterator)
      l.storage.entities
      ≡ named_handles (drop l.before l.fn.storage.places) l.fn.first (handles_listed l.queue)
      l.fn.storage.entities;
  places : l.storage.places ≡ l.fn.storage.places;
  spare : l.storage.spare ≡ l.fn.storage.spare;
}
