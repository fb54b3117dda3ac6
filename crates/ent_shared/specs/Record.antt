-- What one reserver has done in a phase, and how a reservation adds to it.
use Rattle.std.specs.Prelude.{ℕ, zero, suc, ◌+◌, ◌-◌, ℤ, pos, ◌-ℤ◌, nat_le, if◌then◌else◌, List, []}
use Rattle.std.specs.Prelude.{◌∷◌, ◌++◌, length}
use Rattle.std.specs.List.{sum_by}
use Rattle.ent_alloc.specs.Limits.{quota}
use Rattle.ent_alloc.specs.Sequential.{Allocator, cursor, pool_at, reply_from}
use Rattle.ent_shared.specs.declared.record.Reservation.{Reservation}
use Rattle.ent_shared.specs.declared.record.RecordEntry.{RecordEntry}
use Rattle.ent_shared.specs.declared.record.RecordEntry.TheVariants.{Own, Met}
use Rattle.ent_shared.specs.declared.record.Record.{Record}

-- the cursor that a reservation leaves
abbrev pub low : Reservation → ℤ
low reservation = reservation.high -ℤ pos reservation.requested

-- the reservations that an entry speaks of
abbrev pub reservations_in : RecordEntry → List Reservation
reservations_in (Own reservation) = reservation ∷ []
reservations_in (Met reservations) = reservations

-- the reservations that a reserver made itself
abbrev pub own_reservations : List RecordEntry → List Reservation
own_reservations [] = []
own_reservations (Own reservation ∷ entries) = reservation ∷ own_reservations entries
own_reservations (Met reservations ∷ entries) = own_reservations entries

-- all reservations that it made itself or learned of
abbrev pub known_reservations : List RecordEntry → List Reservation
known_reservations [] = []
known_reservations (entry ∷ entries) = reservations_in entry ++ known_reservations entries

-- how many handles a reserver has requested, served or not
abbrev pub requested_by : Record → ℕ
requested_by r = sum_by (λ (c : Reservation). c.requested) (own_reservations r.entries)

-- a reserver that has done nothing yet
abbrev pub opened : Allocator → ℕ → Record
opened start number = record {
  start = start;
  number = number;
  entries = [];
  left = quota;
  mark = cursor start;
  floor = cursor start;
}

-- that many of them, numbered from here on
unfoldable pub opened_records : Allocator → ℕ → ℕ → List Record
opened_records start number zero = []
opened_records start number (suc count) =
    opened start number ∷ opened_records start (number + 1) count

-- this reserver's reservation of n handles if the cursor is high
abbrev pub reservation_at : Record → ℤ → ℕ → Reservation
reservation_at r high n = record {
  caller = r.number;
  high = high;
  requested = n;
  reply = reply_from r.start.made (pool_at r.start high) n;
}

-- the record after it
abbrev pub after_reservation : Record → ℤ → ℕ → Record
after_reservation r high n = record r {
  entries = r.entries ++ Own (reservation_at r high n) ∷ [];
  left = r.left - n;
  mark = high -ℤ pos n;
  floor = if nat_le n (length (pool_at r.start high)) then high -ℤ pos n else r.floor;
}
