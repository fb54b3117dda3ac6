-- What a reply that borrows the slots lists.
use Rattle.std.specs.Prelude.{◌≡◌, ℕ, ◌+◌, ◌-◌, ◌^◌, ◌<◌, ◌≤◌, List, ◌++◌, length, take, drop, map}
use Rattle.std.specs.List.{All}
use Rattle.ent_handle.specs.Handle.{Handle, IsHandle}
use Rattle.ent_alloc.specs.Roster.{Roster}
use Rattle.ent_alloc.specs.Sequential.{fresh}
use Rattle.ent_alloc.specs.Slots.{handle_at}
use Rattle.ent_alloc.specs.declared.slot_record.SlotRecord.{SlotRecord}

-- the handles that wait at the positions from one to another, and the first occupants of the slots
-- between two indexes
abbrev pub reserved_handles : Roster → ℕ → ℕ → ℕ → ℕ → List Handle
reserved_handles r position end index index_end =
    take (end - position) (drop position r.pending) ++ fresh index (index_end - index)

-- the positions are pending, the indexes are those of handles, and so many of both are left
pub record IsInRange (r : Roster) (position end index index_end left : ℕ) : Type 0 where
  pub positions : position ≤ end
  pub within : end ≤ length r.pending
  pub few : end < 2 ^ 63
  pub indexes : index ≤ index_end
  pub last : index_end < 2 ^ 32
  pub count : left ≡ (end - position) + (index_end - index)

-- the next handles of these slots, and the first occupants of the slots between two indexes
abbrev pub handles_of : List SlotRecord → List ℕ → ℕ → ℕ → List Handle
handles_of records waiting index index_end =
    map (handle_at records) waiting ++ fresh index (index_end - index)

-- the slots were made, the indexes are those of handles, and so many of both are left
pub record AreToList (records : List SlotRecord) (waiting : List ℕ) (index index_end left : ℕ)
    : Type 0 where
  pub made : All (λ at. at < length records) waiting
  pub handles : All (λ at. IsHandle (handle_at records at)) waiting
  pub indexes : index ≤ index_end
  pub last : index_end < 2 ^ 32
  pub count : left ≡ length waiting + (index_end - index)
