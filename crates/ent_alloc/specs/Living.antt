-- What a walk over the living handles has left.
use Rattle.std.specs.Prelude.{◌≡◌, ℕ, ◌+◌, ◌^◌, ◌<◌, ◌≤◌, List, length}
use Rattle.std.specs.List.{All}
use Rattle.ent_alloc.specs.Slots.{occupants}
use Rattle.ent_alloc.specs.declared.slot_record.SlotRecord.{SlotRecord}

-- the generation of a record is one that a handle has
abbrev pub HasGeneration : SlotRecord → Type 0
HasGeneration r = (1 ≤ r.generation) × (r.generation < 2 ^ 31)

-- the records are those of the slots from an index on, and so many of them have a living occupant
pub record AreLeft (index : ℕ) (records : List SlotRecord) (left : ℕ) : Type 0 where
  pub count : left ≡ length (occupants index records)
  pub numbered : index + length records < 2 ^ 32
  pub generations : All HasGeneration records
