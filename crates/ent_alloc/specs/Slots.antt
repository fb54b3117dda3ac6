-- What a vector of records and a list of pending indexes represent.
use Rattle.std.specs.Prelude.{◌≡◌, ℕ, ◌+◌, ◌<◌, ◌≤◌, Bool, true, false, ◌&&◌, ◌==◌, nat_lt, nat_le}
use Rattle.std.specs.Prelude.{if◌then◌else◌}
use Rattle.std.specs.Prelude.{List, [], ◌∷◌, length, map, slice_index, slice_index_or, slice_set}
use Rattle.std.specs.Prelude.{Option, None, Some}
use Rattle.std.specs.FinSet as set
use Rattle.std.specs.FinMap as maps
use Rattle.ent_handle.specs.Handle.{Handle}
use Rattle.ent_alloc.specs.Limits.{Limits, AreLimits}
use Rattle.ent_alloc.specs.Roster.{Roster}
use Rattle.ent_alloc.specs.declared.slot_record.SlotRecord.{SlotRecord}
use Rattle.ent_alloc.specs.declared.slot_record.Occupancy.{Occupancy}
use Rattle.ent_alloc.specs.declared.slot_record.Occupancy.TheVariants.{Alive, AliveWithRow, Pending}
use Rattle.ent_alloc.specs.declared.slot_record.Occupancy.TheVariants.{Retired}

-- a living entity has the slot
abbrev pub is_alive : Occupancy → Bool
is_alive Alive = true
is_alive (AliveWithRow row) = true
is_alive (Pending position) = false
is_alive Retired = false

-- the row that is kept with it
abbrev pub row_of : Occupancy → Option ℕ
row_of Alive = None
row_of (AliveWithRow row) = Some row
row_of (Pending position) = None
row_of Retired = None

-- the slot waits at this position or after it
abbrev pub is_pending_from : Occupancy → ℕ → Bool
is_pending_from Alive from = false
is_pending_from (AliveWithRow row) from = false
is_pending_from (Pending position) from = nat_le from position
is_pending_from Retired from = false

-- the same of an occupancy that may be missing
abbrev pub lives : Option Occupancy → Bool
lives None = false
lives (Some o) = is_alive o

abbrev pub row_kept : Option Occupancy → Option ℕ
row_kept None = None
row_kept (Some o) = row_of o

abbrev pub waits_from : Option Occupancy → ℕ → Bool
waits_from None from = false
waits_from (Some o) from = is_pending_from o from

-- what comes after the last record
abbrev pub no_slot : SlotRecord
no_slot = record { generation = 0; occupancy = Pending 0 }

-- the record of a new slot, with its first occupant
abbrev pub new_record : SlotRecord
new_record = record { generation = 1; occupancy = Alive }

-- the record of a slot
abbrev pub record_at : List SlotRecord → ℕ → SlotRecord
record_at records index = slice_index_or records index no_slot

-- the handle that a slot's record speaks of
abbrev pub handle_at : List SlotRecord → ℕ → Handle
handle_at records index =
    record { index = index; generation = (record_at records index).generation }

-- what has the slot of a handle, if its record is about this handle
abbrev pub occupancy_of : List SlotRecord → Handle → Option Occupancy
occupancy_of records h =
    if nat_lt h.index (length records) && (record_at records h.index).generation == h.generation
    then Some (record_at records h.index).occupancy
    else None

-- the living occupants of the slots from an index on
abbrev pub occupants : ℕ → List SlotRecord → List Handle
occupants index [] = []
occupants index (r ∷ records) =
    if is_alive r.occupancy
    then record { index = index; generation = r.generation } ∷ occupants (index + 1) records
    else occupants (index + 1) records

-- the rows that are kept with them
abbrev pub with_row : Handle → Option ℕ → List (Handle × ℕ) → List (Handle × ℕ)
with_row h None entries = entries
with_row h (Some row) entries = (h, row) ∷ entries

abbrev pub rows_from : ℕ → List SlotRecord → List (Handle × ℕ)
rows_from index [] = []
rows_from index (r ∷ records) =
    let h : Handle = record { index = index; generation = r.generation } in
    with_row h (row_of r.occupancy) (rows_from (index + 1) records)

-- the records after these slots got their next occupants
abbrev pub reuse : SlotRecord → SlotRecord
reuse r = record { generation = r.generation; occupancy = Alive }

abbrev pub reused : List SlotRecord → List ℕ → List SlotRecord
reused records [] = records
reused records (index ∷ indices) =
    reused (slice_set records index (reuse (record_at records index))) indices

-- the roster that the vectors represent
abbrev pub roster_of : Limits → List SlotRecord → List ℕ → Roster
roster_of limits records pending = record {
  limits = limits;
  live = set.from_list (occupants 0 records);
  rows = maps.from_entries (rows_from 0 records);
  pending = map (handle_at records) pending;
  made = length records;
}

-- Each pending position and the record of its slot point at each other, generations are within the
-- limit, and each slot has an occupant, waits for the next one, or is retired.
pub record AreLinked
    (limits : Limits) (records : List SlotRecord) (pending : List ℕ) (retired : ℕ) : Type 0 where
  pub limited : AreLimits limits
  pub few : length records ≤ limits.slots
  pub counted : length (occupants 0 records) + length pending + retired ≡ length records
  pub least : (index : ℕ) → index < length records → 1 ≤ (record_at records index).generation
  pub greatest : (index : ℕ) → index < length records
      → (record_at records index).generation ≤ limits.generations
  pub made : (position : ℕ) → position < length pending
      → slice_index pending position < length records
  pub forward : (position : ℕ) → position < length pending
      → (record_at records (slice_index pending position)).occupancy ≡ Pending position
  pub listed : (index position : ℕ) → index < length records
      → (record_at records index).occupancy ≡ Pending position → position < length pending
  pub back : (index position : ℕ) → index < length records
      → (record_at records index).occupancy ≡ Pending position
      → slice_index pending position ≡ index
