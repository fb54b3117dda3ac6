-- The image of an allocator: the bytes that represent it. It says everything about the allocator,
-- and nothing about how it got into that state or where it is in memory.
use Rattle.std.specs.Prelude.{◌≡◌, ℕ, ◌+◌, ◌*◌, ◌^◌, ◌<◌, ◌≤◌, ◌==◌, if◌then◌else◌, Option}
use Rattle.std.specs.Prelude.{None, Some, List, [], ◌∷◌, ◌++◌, length, reverse, filter, IsTrue}
use Rattle.std.specs.List.{All, AllPairs, flat_map, range_with_len}
use Rattle.std.specs.FinSet as set
use Rattle.std.specs.FinMap as map
use Rattle.ent_handle.specs.Bytes.{word, long}
use Rattle.ent_handle.specs.Handle.{Handle}
use Rattle.ent_alloc.specs.Limits.{AreLimits}
use Rattle.ent_alloc.specs.Roster.{Roster}
use Rattle.ent_alloc.specs.Sequential.{Allocator, available, is_old, top}
use Rattle.ent_alloc.specs.Sound.{IsSound, IsWithin, AreApart}
use Rattle.ent_alloc.specs.Entities.{Entities, HasRowsOfLiving}
use Rattle.ent_alloc.specs.declared.image.Header.{Header}
use Rattle.ent_alloc.specs.declared.slot_record.SlotRecord.{SlotRecord}
use Rattle.ent_alloc.specs.declared.slot_record.Occupancy.{Occupancy}
use Rattle.ent_alloc.specs.declared.slot_record.Occupancy.TheVariants.{Alive, AliveWithRow, Pending}
use Rattle.ent_alloc.specs.declared.slot_record.Occupancy.TheVariants.{Retired}

-- ---- slots

-- a living occupant, and its row if it has one
abbrev pub occupied : ℕ → Option ℕ → SlotRecord
occupied generation None = record { generation = generation; occupancy = Alive }
occupied generation (Some row) =
    record { generation = generation; occupancy = AliveWithRow row }

-- a slot that gives no handle any more
abbrev pub retired_slot : SlotRecord
retired_slot = record { generation = 0; occupancy = Retired }

-- the slot, if its handle is among those that wait, the first of them at this position
abbrev pub waiting_slot : ℕ → ℕ → List Handle → SlotRecord
waiting_slot index position [] = retired_slot
waiting_slot index position (h ∷ handles) =
    if h.index == index
    then record { generation = h.generation; occupancy = Pending position }
    else waiting_slot index (position + 1) handles

-- the slot, if its handle is among those that live
abbrev pub living_slot : Roster → ℕ → List Handle → SlotRecord
living_slot r index [] = waiting_slot index 0 r.pending
living_slot r index (h ∷ handles) =
    if h.index == index
    then occupied h.generation (map.get r.rows h)
    else living_slot r index handles

-- the state of the slot
unfoldable pub slot : Roster → ℕ → SlotRecord
slot r index = living_slot r index (set.items r.live)

-- what has the slot, as a word and a number
abbrev pub kind_of : Occupancy → ℕ
kind_of Retired = 0
kind_of Alive = 1
kind_of (AliveWithRow row) = 2
kind_of (Pending position) = 3

abbrev pub number_of : Occupancy → ℕ
number_of Retired = 0
number_of Alive = 0
number_of (AliveWithRow row) = row
number_of (Pending position) = position

-- a slot is three words
unfoldable pub slot_bytes : SlotRecord → List ℕ
slot_bytes s = word s.generation ++ (word (kind_of s.occupancy) ++ word (number_of s.occupancy))

unfoldable pub slots_bytes : Roster → List ℕ
slots_bytes r = flat_map (λ index. slot_bytes (slot r index)) (range_with_len 0 r.made)

-- ---- the image

-- the slots of entities: the handles that old slots give next are listed from the last to be given
abbrev pub roster : Entities → Roster
roster e = record {
  limits = e.allocator.limits;
  live = e.allocator.live;
  rows = e.rows;
  pending = reverse (filter (is_old e.allocator.made) (available e.allocator));
  made = e.allocator.made;
}

-- FORGENI and a zero
abbrev pub magic : List ℕ
magic = 70 ∷ 79 ∷ 82 ∷ 71 ∷ 69 ∷ 78 ∷ 73 ∷ 0 ∷ []

-- the version of this format
abbrev pub version : ℕ
version = 1

-- The numbers before the slots: the limits, how many slots were made and how many of them wait, and
-- how many handles are reserved and were asked for.
abbrev pub header : Entities → Header
header e = record {
  slots = e.allocator.limits.slots;
  generations = e.allocator.limits.generations;
  made = e.allocator.made;
  waiting = top e.allocator;
  reserved = length e.allocator.taken;
  asked = e.allocator.asked;
}

unfoldable pub numbers_bytes : Header → List ℕ
numbers_bytes h = word h.slots
    ++ (word h.generations
    ++ (word h.made ++ (word h.waiting ++ (word h.reserved ++ long h.asked))))

-- forty bytes: what they are an image of, and the numbers
unfoldable pub header_bytes : Header → List ℕ
header_bytes h = magic ++ (word version ++ numbers_bytes h)

-- that many bytes are kept in memory: eight for each slot, and four for each slot that waits
abbrev pub kept_bytes : Allocator → ℕ
kept_bytes s = 8 * s.made + 4 * top s

abbrev pub image : Entities → List ℕ
image e = header_bytes (header e) ++ slots_bytes (roster e)

-- ---- what has an image

-- What is true of every state of an `Entities`. Each of them has an image, and no two have the
-- same.
pub record HasImage (e : Entities) : Type 0 where
  pub sound : IsSound e.allocator
  pub rows_of_living : HasRowsOfLiving e
  pub rows : (h : Handle) (row : ℕ) → map.get e.rows h ≡ Some row → row < 2 ^ 32
  pub asked : e.allocator.asked ≤ 2 ^ 50

-- The same of the slots alone.
pub record AreSlots (r : Roster) : Type 0 where
  pub limits : AreLimits r.limits
  pub made : r.made ≤ r.limits.slots
  pub live_within : (h : Handle) → IsTrue (set.contains r.live h) → IsWithin r.limits h
  pub live_made : (h : Handle) → IsTrue (set.contains r.live h) → h.index < r.made
  pub live_apart : (h : Handle) → IsTrue (set.contains r.live h) → All (AreApart h) r.pending
  pub one_occupant : (g h : Handle) → IsTrue (set.contains r.live g)
      → IsTrue (set.contains r.live h) → g.index ≡ h.index → g ≡ h
  pub within : All (IsWithin r.limits) r.pending
  pub waiting_made : All (λ h. h.index < r.made) r.pending
  pub apart : AllPairs AreApart r.pending
  pub rows_of_living : (h : Handle) → ¬ (IsTrue (set.contains r.live h))
      → map.get r.rows h ≡ None
  pub rows : (h : Handle) (row : ℕ) → map.get r.rows h ≡ Some row → row < 2 ^ 32
