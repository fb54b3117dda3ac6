-- What contracts see of a shared allocator and of its reservers.
use Rattle.std.specs.Prelude.{◌≡◌, ℕ, ◌+◌, ◌<◌, ◌≤◌, ℤ, pos, ◌≤ℤ◌, List, [], ◌∷◌, map, take, drop}
use Rattle.std.specs.Prelude.{refl}
use Rattle.std.specs.List.{All}
use Rattle.std.specs.Coded.{Coded, code_by, coded×, coded_ℕ}
use Rattle.std.specs.FinMap as maps
use Rattle.atomic_table.specs.Seated.{TableId, table_id_coded}
use Rattle.ent_handle.specs.Handle.{handle_cmp, handle_code}
use Rattle.ent_alloc.specs.Entities.{Entities}
use Rattle.ent_alloc.specs.Limits.{quota}
use Rattle.ent_alloc.specs.Sequential.{Allocator, allocator_code, opening}
use Rattle.ent_alloc.specs.Sound.{IsSound}
use Rattle.ent_shared.specs.contracts.record.Record as recorded
use Rattle.ent_shared.specs.declared.record.Record.{Record}
use Rattle.ent_shared.specs.declared.record.Reservation.{Reservation}
use Rattle.ent_shared.specs.declared.record.RecordEntry.{RecordEntry}
use Rattle.ent_shared.specs.Record.{low, known_reservations, requested_by}
use Rattle.ent_shared.specs.declared.rule.Opening.{Opening}
use Rattle.ent_shared.specs.Rule.{IsStart}

-- which atomic word it is, the allocator as it was shared, the rows that are kept with its living
-- handles, and how many reservers there are
pub record Shared : Type 0 where
  pub word : TableId
  pub start : Allocator
  pub rows : maps.FinMap handle_cmp ℕ
  pub count : ℕ

-- which word it reserves from, and what it has done
pub record Reserver : Type 0 where
  pub word : TableId
  pub own : Record

abbrev pub shared_code : Coded Shared
shared_code =
    code_by (TableId × (Allocator × (maps.FinMap handle_cmp ℕ × ℕ)))
    (coded× table_id_coded
    (coded× allocator_code (coded× (maps.code handle_code coded_ℕ) coded_ℕ)))
    (λ s. (s.word, (s.start, (s.rows, s.count))))
    (λ p. record { word = p.0; start = p.1.0; rows = p.1.1.0; count = p.1.1.1 }) (λ _. refl)

abbrev pub reserver_code : Coded Reserver
reserver_code =
    code_by (TableId × Record) (coded× table_id_coded recorded.the_row.coded)
    (λ r. (r.word, r.own)) (λ p. record { word = p.0; own = p.1 }) (λ _. refl)

-- what these reservers have done
abbrev pub records_of : List Reserver → List Record
records_of reservers = map (λ (r : Reserver). r.own) reservers

-- The reserver is one of those that came with this allocator.
pub record IsOf (shared : Shared) (r : Reserver) : Type 0 where
  pub word : r.word ≡ shared.word
  pub start : r.own.start ≡ shared.start
  pub number : r.own.number < shared.count
  -- the quota adds up from what is left and what it has requested
  pub quota : r.own.left + requested_by r.own ≡ quota

-- no reserver's record
abbrev pub blank : Record
blank = record {
  start = opening (record { slots = 0; generations = 0 });
  number = 0;
  entries = [];
  left = 0;
  mark = pos 0;
  floor = pos 0;
}

-- the one record of what a token knows
abbrev pub own_of : List (List Record) → Record
own_of ((r ∷ rs) ∷ views) = r
own_of _ = blank

-- the mark is at or below the end of every reservation of which these entries speak
abbrev pub IsBelow : ℤ → List RecordEntry → Type 0
IsBelow mark entries = All (λ (c : Reservation). mark ≤ℤ low c) (known_reservations entries)

-- A reserver's fields say what its record says, and its next reservation comes after all that it
-- knows.
pub record IsHolding (views : List (List Record)) (number left : ℕ) (floor : ℤ) : Type 0 where
  pub views_is : views ≡ (own_of views ∷ []) ∷ []
  pub number_is : number ≡ (own_of views).number
  pub left_is : left ≡ (own_of views).left
  pub floor_is : floor ≡ (own_of views).floor
  pub below : IsBelow (own_of views).mark (own_of views).entries
  pub quota : (own_of views).left + requested_by (own_of views) ≡ quota

-- the allocator and its rows lie unchanged beside the word
pub record IsPhase (entities : Entities) (count : ℕ) (key : Opening) (word : TableId)
    : Type 0 where
  pub begins : IsStart entities.allocator
  pub sound : IsSound entities.allocator
  pub few : count ≤ 1024
  pub key_is : key ≡ record { entities = entities; count = count }
  pub words : word.words ≡ 1
  pub slots : word.slots ≡ 0

-- the allocator if that much was asked of it and the front of the pool counts as reserved, as far
-- as it goes
abbrev pub after_loss : Allocator → ℕ → Allocator
after_loss s asked = record s {
  taken = take asked s.pool;
  aside = [];
  pool = drop asked s.pool;
  asked = asked;
}
