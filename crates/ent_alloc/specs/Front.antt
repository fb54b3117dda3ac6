-- The front of the pool in another order, and for private contracts how the slots of its handles
-- are written.
use Rattle.std.specs.Prelude.{◌≡◌, ℕ, ◌+◌, ◌-◌, zero, suc, List, [], ◌∷◌, ◌++◌, length, drop}
use Rattle.std.specs.Prelude.{slice_set}
use Rattle.std.specs.Prelude.{map, IsPermutation}
use Rattle.ent_handle.specs.Handle.{Handle}
use Rattle.ent_alloc.specs.Sequential.{Allocator, top}
use Rattle.ent_alloc.specs.Slots.{record_at}
use Rattle.ent_alloc.specs.declared.slot_record.SlotRecord.{SlotRecord}
use Rattle.ent_alloc.specs.declared.slot_record.Occupancy.TheVariants.{Pending}

-- The pool begins with these handles, and all their slots are made.
abbrev pub with_front : Allocator → List Handle → Allocator
with_front s front = record s {
  pool = front ++ drop (length front) s.pool;
  made = s.made + (length front - top s);
}

-- For private contracts: a slot that waits at a position.
abbrev pub waiting_at : ℕ → ℕ → SlotRecord
waiting_at generation position =
    record { generation = generation; occupancy = Pending position }

-- new slots that wait from a position on
abbrev pub new_waiting : ℕ → ℕ → List SlotRecord
new_waiting position zero = []
new_waiting position (suc count) = waiting_at 1 position ∷ new_waiting (position + 1) count

-- these slots wait below a top, the first one right below it
abbrev pub placed : List ℕ → ℕ → List ℕ → List ℕ
placed pending top [] = pending
placed pending top (i ∷ is) = placed (slice_set pending (top - 1) i) (top - 1) is

abbrev pub moved : List SlotRecord → ℕ → List ℕ → List SlotRecord
moved records top [] = records
moved records top (i ∷ is) =
    moved (slice_set records i (waiting_at (record_at records i).generation (top - 1))) (top - 1) is

-- For private contracts: the slots of handles.
abbrev pub slots_of : List Handle → List ℕ
slots_of = map (λ (h : Handle). h.index)

-- The slots are those of these handles in another order, which is that of the front.
pub record AreSlotsOf (handles : List Handle) (order : List ℕ) : Type 0 where
  pub front : List Handle
  pub same : IsPermutation handles front
  pub slots : order ≡ slots_of front
