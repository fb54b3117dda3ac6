-- Which fault bytes have that are the image of no allocator: that of the first test that fails.
use Rattle.std.specs.Prelude.{ℕ, ◌+◌, ◌-◌, ◌*◌, ◌^◌, Bool, not, ◌&&◌, ◌||◌, ◌==◌}
use Rattle.std.specs.Prelude.{nat_eq, nat_le, nat_lt, if◌then◌else◌, List, [], ◌∷◌, ◌++◌, map}
use Rattle.std.specs.Prelude.{length, take, drop, Option, None, Some}
use Rattle.std.specs.List.{starts_with, list_any, range_with_len}
use Rattle.std.specs.Int.{w32, w64, from_le_bytes}
use Rattle.ent_alloc.specs.Image.{magic, version}
use Rattle.ent_alloc.specs.declared.image.Header.{Header}
use Rattle.ent_alloc.specs.declared.image_fault.ImageFault.{ImageFault}
use Rattle.ent_alloc.specs.declared.image_fault.ImageFault.TheVariants.{Magic, Version, Limits}
use Rattle.ent_alloc.specs.declared.image_fault.ImageFault.TheVariants.{Counts}
use Rattle.ent_alloc.specs.declared.image_fault.ImageFault.TheVariants.{Requests, Length, Slot}
use Rattle.ent_alloc.specs.declared.image_fault.ImageFault.TheVariants.{Position}

-- what has to be so, and the fault if it isn't
abbrev pub Test : Type 0
Test = Bool × ImageFault

abbrev pub first_failing : List Test → Option ImageFault
first_failing [] = None
first_failing (test ∷ tests) = if test.0 then first_failing tests else Some test.1

-- the number in the four bytes from a place on, the lowest first
unfoldable pub word_at : List ℕ → ℕ → ℕ
word_at bytes place = from_le_bytes w32 (take 4 (drop place bytes))

-- and in eight
unfoldable pub long_at : List ℕ → ℕ → ℕ
long_at bytes place = from_le_bytes w64 (take 8 (drop place bytes))

-- ---- the first forty bytes

abbrev pub front_tests : List ℕ → List Test
front_tests bytes =
    (starts_with nat_eq bytes magic, Magic)
    ∷ (nat_le 40 (length bytes), Length 40)
    ∷ (word_at bytes 8 == version, Version (word_at bytes 8))
    ∷ []

abbrev pub header_in : List ℕ → Header
header_in bytes = record {
  slots = word_at bytes 12;
  generations = word_at bytes 16;
  made = word_at bytes 20;
  waiting = word_at bytes 24;
  reserved = word_at bytes 28;
  asked = long_at bytes 32;
}

abbrev pub in_limits : Header → Bool
in_limits h = nat_le 1 h.slots && nat_le 1 h.generations && nat_lt h.generations (2 ^ 31)

abbrev pub in_counts : Header → Bool
in_counts h = nat_le h.made h.slots && nat_le h.waiting h.made

-- that many of the handles that there were to give may be reserved: all that were requested, if
-- there were enough
abbrev pub in_requests : Header → Bool
in_requests h =
    let given = h.waiting + (h.slots - h.made) in
    nat_le h.asked (2 ^ 50) && nat_le h.reserved h.asked && nat_le h.reserved given
    && (nat_lt given h.asked || h.reserved == h.asked)

abbrev pub header_tests : Header → ℕ → List Test
header_tests h len =
    (in_limits h, Limits)
    ∷ (in_counts h, Counts)
    ∷ (in_requests h, Requests)
    ∷ (len == 40 + 12 * h.made, Length (40 + 12 * h.made))
    ∷ []

-- the first fault that the bytes have before the slots; finding it takes no memory
abbrev pub header_fault : List ℕ → Option ImageFault
header_fault bytes =
    first_failing (front_tests bytes ++ header_tests (header_in bytes) (length bytes))

-- ---- the bytes after them

-- the three words of a slot
abbrev pub generation_of : List ℕ → ℕ → ℕ
generation_of slots index = word_at slots (12 * index)

abbrev pub kind_in : List ℕ → ℕ → ℕ
kind_in slots index = word_at slots (12 * index + 4)

abbrev pub number_in : List ℕ → ℕ → ℕ
number_in slots index = word_at slots (12 * index + 8)

-- a row of the table: retired, a living entity without a row or with one, or waiting
abbrev pub is_slot : ℕ → ℕ → ℕ → ℕ → Bool
is_slot generations generation kind number =
    if kind == 0
    then generation == 0 && number == 0
    else nat_le 1 generation && nat_le generation generations
    && (kind == 1 && number == 0 || kind == 2 || kind == 3)

abbrev pub waits_at : List ℕ → ℕ → ℕ → Bool
waits_at slots position index = kind_in slots index == 3 && number_in slots index == position

-- one of that many slots, the first ones, waits there
abbrev pub is_taken : List ℕ → ℕ → ℕ → Bool
is_taken slots count position = list_any (waits_at slots position) (range_with_len 0 count)

-- if it waits, then at a position that there is, and where no slot before it waits
abbrev pub has_place : List ℕ → ℕ → ℕ → Bool
has_place slots waiting index =
    let position = number_in slots index in
    not (kind_in slots index == 3) || nat_lt position waiting && not (is_taken slots index position)

abbrev pub slot_test : ℕ → ℕ → List ℕ → ℕ → Test
slot_test generations waiting slots index = (
  is_slot generations (generation_of slots index) (kind_in slots index) (number_in slots index)
      && has_place slots waiting index,
  Slot index,
)

abbrev pub position_test : ℕ → List ℕ → ℕ → Test
position_test made slots position = (is_taken slots made position, Position position)

-- each slot, and then each position
abbrev pub slots_tests : ℕ → ℕ → ℕ → List ℕ → List Test
slots_tests generations made waiting slots =
    map (slot_test generations waiting slots) (range_with_len 0 made)
    ++ map (position_test made slots) (range_with_len 0 waiting)

-- ---- all of them, in their order

abbrev pub tests : List ℕ → List Test
tests bytes =
    let h = header_in bytes in
    front_tests bytes
    ++ (header_tests h (length bytes)
    ++ slots_tests h.generations h.made h.waiting (drop 40 bytes))

abbrev pub first_fault : List ℕ → Option ImageFault
first_fault bytes = first_failing (tests bytes)
