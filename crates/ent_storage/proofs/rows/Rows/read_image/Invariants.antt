use Rattle.ent_storage.proofs.Common.{◌≡◌, ◌≤◌, ◌+◌, take}
use Rattle.ent_storage.proofs.ImageRead.{AreRead}
use Rattle.ent_storage.proofs.rows.Rows.read_image.Given as goal

-- the entities of the handles so far were read, and nobody else
abbrev pub invariant-loop-handle : goal.invariant-loop-handle
invariant-loop-handle l = record {
  read : AreRead l.width l.storage.entities (take l.handle-index l.handles) l.bytes l.rest;
  places : l.storage.places ≡ take l.handle-index l.handles;
  spare : l.room ≤ l.handle-index + l.storage.spare;
}
