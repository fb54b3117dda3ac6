-- For private contracts: what is written of a slot's record, and what has been read of an image.
use Rattle.std.specs.Prelude.{◌≡◌, ◌≢◌, ℕ, ◌-◌, ◌^◌, ◌<◌, ◌≤◌, List, length, slice_index, slice_set}
use Rattle.ent_alloc.specs.Limits.{Limits}
use Rattle.ent_alloc.specs.declared.image.Header.{Header}
use Rattle.ent_alloc.specs.declared.slot_record.SlotRecord.{SlotRecord}
use Rattle.ent_alloc.specs.declared.slot_record.Occupancy.{Occupancy}
use Rattle.ent_alloc.specs.declared.slot_record.Occupancy.TheVariants.{Alive, AliveWithRow, Pending}
use Rattle.ent_alloc.specs.declared.slot_record.Occupancy.TheVariants.{Retired}
use Rattle.ent_alloc.specs.Slots.{occupants, record_at}
use Rattle.ent_alloc.specs.Image.{slot_bytes, number_of}

-- of a retired slot no generation is written
abbrev pub kept_generation : Occupancy → ℕ → ℕ
kept_generation Retired generation = 0
kept_generation Alive generation = generation
kept_generation (AliveWithRow row) generation = generation
kept_generation (Pending position) generation = generation

abbrev pub kept : SlotRecord → SlotRecord
kept s = record {
  generation = kept_generation s.occupancy s.generation;
  occupancy = s.occupancy;
}

abbrev pub record_bytes : SlotRecord → List ℕ
record_bytes s = slot_bytes (kept s)

-- a slot without the row of its occupant
abbrev pub without_row_of : Occupancy → Occupancy
without_row_of Retired = Retired
without_row_of Alive = Alive
without_row_of (AliveWithRow row) = Alive
without_row_of (Pending position) = Pending position

abbrev pub without_row : SlotRecord → SlotRecord
without_row s = record { generation = s.generation; occupancy = without_row_of s.occupancy }

abbrev pub rowless_bytes : SlotRecord → List ℕ
rowless_bytes s = record_bytes (without_row s)

-- a generation within the limits
pub record IsGeneration (limits : Limits) (generation : ℕ) : Type 0 where
  pub least : 1 ≤ generation
  pub greatest : generation ≤ limits.generations

-- a slot that may be written
abbrev pub IsWritten : Limits → ℕ → Occupancy → Type 0
IsWritten limits generation Retired = generation ≡ 0
IsWritten limits generation Alive = IsGeneration limits generation
IsWritten limits generation (AliveWithRow row) = IsGeneration limits generation × (row < 2 ^ 32)
IsWritten limits generation (Pending position) =
    IsGeneration limits generation × (position < 2 ^ 32)

-- no slot was read yet that waits at this position
abbrev pub vacant : ℕ
vacant = 2 ^ 32 - 1

-- the position is one of those, and none other waits there
abbrev pub CanWait : List ℕ → Occupancy → Type 0
CanWait pending Retired = Unit {0}
CanWait pending Alive = Unit {0}
CanWait pending (AliveWithRow row) = Unit {0}
CanWait pending (Pending position) =
    (position < length pending) × (slice_index pending position ≡ vacant)

-- the positions with this slot, if it waits
abbrev pub with_waiting : List ℕ → Occupancy → ℕ → List ℕ
with_waiting pending Retired index = pending
with_waiting pending Alive index = pending
with_waiting pending (AliveWithRow row) index = pending
with_waiting pending (Pending position) index = slice_set pending position index

-- The records of the first slots, and the positions at which some of them wait.
pub record AreRead
    (limits : Limits) (records : List SlotRecord) (pending : List ℕ) (live : ℕ) : Type 0 where
  pub counted : live ≡ length (occupants 0 records)
  pub generations : (index : ℕ) → index < length records
      → IsGeneration limits (record_at records index).generation
  pub numbers : (index : ℕ) → index < length records
      → number_of (record_at records index).occupancy < 2 ^ 32
  pub made : (position : ℕ) → position < length pending → slice_index pending position ≢ vacant
      → slice_index pending position < length records
  pub forward : (position : ℕ) → position < length pending
      → slice_index pending position ≢ vacant
      → (record_at records (slice_index pending position)).occupancy ≡ Pending position
  pub listed : (index position : ℕ) → index < length records
      → (record_at records index).occupancy ≡ Pending position → position < length pending
  pub back : (index position : ℕ) → index < length records
      → (record_at records index).occupancy ≡ Pending position
      → slice_index pending position ≡ index

-- that many handles may be reserved if that many were requested, of that many that there were to
-- give
pub record AreServed (asked reserved available : ℕ) : Type 0 where
  pub asked_in : asked ≤ 2 ^ 50
  pub least : reserved ≤ asked
  pub within : reserved ≤ available
  pub all : asked ≤ available → reserved ≡ asked

-- the numbers fit their words
pub record AreNumbers (h : Header) : Type 0 where
  pub slots : h.slots < 2 ^ 32
  pub generations : h.generations < 2 ^ 32
  pub made : h.made < 2 ^ 32
  pub waiting : h.waiting < 2 ^ 32
  pub reserved : h.reserved < 2 ^ 32
  pub asked : h.asked < 2 ^ 64
