-- The one history of all reservers' reservations, and what it respects.
use Rattle.std.specs.Prelude.{◌≡◌, ℕ, ◌<◌, ◌==◌, List, [], ◌∷◌, map, filter, slice_get, Some}
use Rattle.std.specs.Prelude.{if◌then◌else◌, int_lt}
use Rattle.std.specs.List.{All, flat_map}
use Rattle.ent_handle.specs.Handle.{Handle}
use Rattle.ent_alloc.specs.History as history
use Rattle.ent_shared.specs.declared.record.Reservation.{Reservation}
use Rattle.ent_shared.specs.declared.record.RecordEntry.{RecordEntry}
use Rattle.ent_shared.specs.declared.record.Record.{Record}
use Rattle.ent_shared.specs.Record.{reservations_in, own_reservations}

-- inserts a reservation into others that are sorted by descending cursor
abbrev pub insert_reservation : Reservation → List Reservation → List Reservation
insert_reservation c [] = c ∷ []
insert_reservation c (d ∷ ds) =
    if int_lt d.high c.high then c ∷ d ∷ ds else d ∷ insert_reservation c ds

abbrev pub by_falling_high : List Reservation → List Reservation
by_falling_high [] = []
by_falling_high (c ∷ cs) = insert_reservation c (by_falling_high cs)

-- the own reservations of these records, one record after the other
abbrev pub own_of_all : List Record → List Reservation
own_of_all records = flat_map (λ (r : Record). own_reservations r.entries) records

-- the same in the order of their steps: the cursor falls with each
abbrev pub reservations_of : List Record → List Reservation
reservations_of records = by_falling_high (own_of_all records)

-- a reservation as the sequential allocator sees it
abbrev pub as_call : Reservation → history.Call
as_call c = record { caller = c.caller; requested = c.requested; reply = c.reply }

-- the history of these records
abbrev pub history_of : List Record → List history.Call
history_of records = map as_call (reservations_of records)

-- the one reservation comes before the other
abbrev pub StandsBefore : List Reservation → Reservation → Reservation → Type 0
StandsBefore reservations earlier later = (i : ℕ) × (j : ℕ) × (i < j)
    × (slice_get reservations i ≡ Some earlier) × (slice_get reservations j ≡ Some later)

-- each of the reserver's own reservations among these entries comes after all that an earlier entry
-- names
abbrev pub FollowsEntries : List Reservation → List RecordEntry → Type 0
FollowsEntries reservations [] = Unit {0}
FollowsEntries reservations (entry ∷ entries) =
    All (λ (later : Reservation).
    All (λ (earlier : Reservation). StandsBefore reservations earlier later)
    (reservations_in entry)) (own_reservations entries)
    × FollowsEntries reservations entries

-- the reservations of one caller, in order
abbrev pub reservations_by : ℕ → List Reservation → List Reservation
reservations_by caller reservations = filter (λ (c : Reservation). c.caller == caller) reservations

-- The order respects a reserver: it has the reserver's own reservations in their order, each once,
-- and each of them after all that the reserver had made or learned of before.
pub record Respects (reservations : List Reservation) (r : Record) : Type 0 where
  pub own : reservations_by r.number reservations ≡ own_reservations r.entries
  pub after : FollowsEntries reservations r.entries

-- the handles that these reservations were given
abbrev pub handles_of : List Reservation → List Handle
handles_of reservations = history.given_in (map as_call reservations)

-- the handles that a reserver was given, in the order of its reservations
abbrev pub handles_given : Record → List Handle
handles_given r = handles_of (own_reservations r.entries)
