-- The rule over the cursor word and the records of all reservers, before and after each step.
use Rattle.std.specs.Prelude.{◌≡◌, ℕ, ◌+◌, ◌*◌, ◌^◌, ◌<◌, ◌≤◌, ℤ, pos, ◌-ℤ◌, ◌≤ℤ◌, List, [], ◌∷◌}
use Rattle.std.specs.Prelude.{All, Contains, length, nat_le, if◌then◌else◌, count_by, ◌==◌}
use Rattle.std.specs.List.{sum_by}
use Rattle.std.specs.Int.{int_min}
use Rattle.atomic_table.specs.Table.{State, Me}
use Rattle.ent_alloc.specs.Limits.{quota}
use Rattle.ent_alloc.specs.Sequential.{Allocator, cursor, top, pool_at, reply_from}
use Rattle.ent_shared.specs.declared.record.Reservation.{Reservation}
use Rattle.ent_shared.specs.declared.record.RecordEntry.{RecordEntry}
use Rattle.ent_shared.specs.declared.record.Record.{Record}
use Rattle.ent_shared.specs.Record.{low, reservations_in, own_reservations, known_reservations}
use Rattle.ent_shared.specs.Record.{requested_by, after_reservation}

-- what is added to the cursor, so that the word is never negative
unfoldable pub offset : ℕ
offset = 2 ^ 62

-- the cursor that a word represents
abbrev pub cursor_of : ℕ → ℤ
cursor_of word = pos word -ℤ pos offset

-- From high down to end the reservations follow each other, and each of them requests something.
abbrev pub Follow : ℤ → List Reservation → ℤ → Type 0
Follow high [] end = high ≡ end
Follow high (c ∷ cs) end = (c.high ≡ high) × (0 < c.requested) × Follow (low c) cs end

-- the own reservations of a holder's records, each of them weighed
abbrev pub weigh : (Reservation → ℕ) → List Record → ℕ
weigh f records = sum_by (λ (r : Record). sum_by f (own_reservations r.entries)) records

-- The spans partition: the own reservations of all records, one after the other, lead from the top
-- down to the cursor.
pub record SpansPartition (start : Allocator) (word : ℕ) (views : List (List Record)) : Type 0 where
  pub log : List Reservation
  pub follow : Follow (cursor start) log (cursor_of word)
  pub all : (f : Reservation → ℕ) → sum_by (weigh f) views ≡ sum_by f log

-- the reply of a reservation is what the allocator says there
abbrev pub HasItsReply : Allocator → Reservation → Type 0
HasItsReply start c = c.reply ≡ reply_from start.made (pool_at start c.high) c.requested

-- the cursor that a reservation leaves, if it was served, and else the top
abbrev pub floor_after : Allocator → Reservation → ℤ
floor_after start c =
    if nat_le c.requested (length (pool_at start c.high)) then low c else cursor start

-- the least cursor that those of them left that were served, or the top
abbrev pub floor_of : Allocator → List Reservation → ℤ
floor_of start [] = cursor start
floor_of start (c ∷ cs) = int_min (floor_after start c) (floor_of start cs)

-- the least floor of these records, or the top
abbrev pub least_floor : ℤ → List Record → ℤ
least_floor high [] = high
least_floor high (r ∷ rs) = int_min r.floor (least_floor high rs)

-- The quota adds up: what is left and what was requested.
pub record QuotaAddsUp (start : Allocator) (r : Record) : Type 0 where
  pub quota : r.left + requested_by r ≡ quota
  pub floor : r.floor ≡ floor_of start (own_reservations r.entries)

-- each own reservation begins at or below the end of every reservation of which an earlier entry
-- speaks
abbrev pub InOrder : List RecordEntry → Type 0
InOrder [] = Unit {0}
InOrder (entry ∷ entries) =
    All (λ (later : Reservation).
    All (λ (earlier : Reservation). later.high ≤ℤ low earlier) (reservations_in entry))
    (own_reservations entries)
    × InOrder entries

-- The marks are in order.
pub record MarksInOrder (at : ℤ) (log : List Reservation) (r : Record) : Type 0 where
  pub mark : at ≤ℤ r.mark
  pub below : All (λ (c : Reservation). r.mark ≤ℤ low c) (known_reservations r.entries)
  pub order : InOrder r.entries
  pub known : All (Contains log) (known_reservations r.entries)

pub record IsKept (start : Allocator) (at : ℤ) (log : List Reservation) (r : Record) : Type 0 where
  pub start_is : r.start ≡ start
  pub caller : All (λ (c : Reservation). c.caller ≡ r.number) (own_reservations r.entries)
  pub quota : QuotaAddsUp start r
  pub marks : MarksInOrder at log r

-- nothing was requested, and the top keeps the word in its range
pub record IsStart (start : Allocator) : Type 0 where
  pub flushed : start.asked ≡ 0
  pub top : top start < 2 ^ 32

-- the three parts together, and each record is in one holder at most
pub record IsRuled (start : Allocator) (count : ℕ) (s : State (Unit {0}) (List Record))
    : Type 0 where
  pub begins : IsStart start
  pub few : count ≤ 1024
  pub word : ℕ
  pub words : s.words ≡ word ∷ []
  pub spans : SpansPartition start word s.views
  pub replied : All (HasItsReply start) spans.log
  pub records : sum_by length s.views ≡ count
  pub numbers : (k : ℕ) → sum_by (count_by (λ (r : Record). r.number == k)) s.views ≤ 1
  pub each : All (All (IsKept start (cursor_of word) spans.log)) s.views

-- After a reservation of n by the one reserver of a holder: the word is in its range, and the
-- record has one reservation more.
pub record AfterReserve (n : ℕ) (r : Record) (found : ℕ) (others : List Record) : Type 0 where
  pub least : offset ≤ found + 2 ^ 50
  pub greatest : found < offset + 2 ^ 32
  pub mark : cursor_of found ≤ℤ r.mark
  pub top : cursor_of found ≤ℤ cursor r.start
  pub after : others ≡ after_reservation r (cursor_of found) n ∷ []

abbrev pub ReserveTells : ℕ → Me (Unit {0}) (List Record) → ℕ → Me (Unit {0}) (List Record) → Type 0
ReserveTells n before found after =
    (after.1 ≡ before.1) × ((r : Record) → before.0 ≡ r ∷ [] → AfterReserve n r found after.0)

-- What the rule says once all threads have stopped, and these records are known.
pub record IsClosed (start : Allocator) (count : ℕ) (records : List Record) (at : ℤ) : Type 0 where
  pub log : List Reservation
  pub follow : Follow (cursor start) log at
  pub replied : All (HasItsReply start) log
  pub each : All (IsKept start at log) records
  pub numbers : (k : ℕ) → count_by (λ (r : Record). r.number == k) records ≤ 1
  pub some : (f : Reservation → ℕ) → weigh f records ≤ sum_by f log
  pub all : length records ≡ count → (f : Reservation → ℕ) → weigh f records ≡ sum_by f log
  pub quota : sum_by (λ (r : Record). r.left) records
      + sum_by (λ (c : Reservation). c.requested) log ≤ count * quota
