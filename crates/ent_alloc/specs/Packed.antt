-- How the record of a slot is kept in a mark and a number, both below 2^32.
use Rattle.std.specs.Prelude.{◌≡◌, ℕ, ◌+◌, ◌-◌, ◌^◌, ◌==◌, nat_lt, if◌then◌else◌}
use Rattle.std.proofs.Common.{arith}
use Rattle.std.proofs.lemmas.Grind.{common_steps}
use Rattle.ent_alloc.specs.declared.slot_record.SlotRecord.{SlotRecord}
use Rattle.ent_alloc.specs.declared.slot_record.Occupancy.{Occupancy}
use Rattle.ent_alloc.specs.declared.slot_record.Occupancy.TheVariants.{Alive, AliveWithRow, Pending}
use Rattle.ent_alloc.specs.declared.slot_record.Occupancy.TheVariants.{Retired}

-- what a living occupant's number says: its row, or the greatest number if it has none
abbrev pub with_number : ℕ → Occupancy
with_number number = if number == 2 ^ 32 - 1 then Alive else AliveWithRow number

-- The record of a mark and a number. A mark below 2^31 is the generation of a living occupant. A
-- mark from there on is the generation of a slot that waits, and its number the position. No slot
-- waits at the greatest number, so there it is that of an occupant with the greatest row. No handle
-- has the generation 0, so there the slot is retired, and the number is its generation.
abbrev pub record_of : ℕ → ℕ → SlotRecord
record_of mark number =
    if nat_lt mark (2 ^ 31)
    then record { generation = mark; occupancy = with_number number }
    else if number == 2 ^ 32 - 1
    then record { generation = mark - 2 ^ 31; occupancy = AliveWithRow number }
    else if mark == 2 ^ 31
    then record { generation = number; occupancy = Retired }
    else record { generation = mark - 2 ^ 31; occupancy = Pending number }

-- the mark and the number of a record
abbrev pub mark_with : ℕ → Occupancy → ℕ
mark_with generation Alive = generation
mark_with generation (AliveWithRow row) =
    if row == 2 ^ 32 - 1 then generation + 2 ^ 31 else generation
mark_with generation (Pending position) = generation + 2 ^ 31
mark_with generation Retired = 2 ^ 31

abbrev pub number_with : ℕ → Occupancy → ℕ
number_with generation Alive = 2 ^ 32 - 1
number_with generation (AliveWithRow row) = row
number_with generation (Pending position) = position
number_with generation Retired = generation

pub mark-record_of : (mark number : ℕ)
    → mark_with (record_of mark number).generation (record_of mark number).occupancy ≡ mark
mark-record_of mark number = grind (arith, common_steps)

pub number-record_of : (mark number : ℕ)
    → number_with (record_of mark number).generation (record_of mark number).occupancy ≡ number
number-record_of mark number = grind (arith, common_steps)
