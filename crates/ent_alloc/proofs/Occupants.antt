-- What the set of occupants holds, how many they are and in which order, what the record of one
-- has, and the rows that the records keep with them.
use Rattle.ent_alloc.proofs.Common.{rules, ◌≡◌, ℕ, ◌+◌, ◌-◌, ◌<◌, Bool, false, cond, ◌&&◌, eqb, leb}
use Rattle.ent_alloc.proofs.Common.{List, [], ◌∷◌, ◌++◌, length, get_or, set, refl, ap, arith, suc}
use Rattle.ent_alloc.proofs.Common.{zero, replicate, common_steps, list_any, eq_by_cmp, le-leb}
use Rattle.ent_alloc.proofs.Common.{and-false, list_any-append, Handle, handle_cmp}
use Rattle.ent_alloc.proofs.Common.{handle_cmp_total, handle_cmp-IsAntisymmetric, SlotRecord}
use Rattle.ent_alloc.proofs.Common.{occupants, record_at, no_slot, is_alive, new_record, fresh}
use Rattle.ent_alloc.proofs.Common.{true, and_parts, Limits, Roster, roster_of, ◌≤◌, All, AllPairs}
use Rattle.ent_alloc.proofs.Common.{AllPairs-cons, Option, None, find, row_of, rows_from}
use Rattle.std.specs.FinSet as sets
use Rattle.std.specs.FinMap as maps
use Rattle.ent_alloc.proofs.ListLaws.{tests_of, eqb_sym}

-- ---- looking a handle up

-- the record has this living occupant
abbrev pub has_occupant : SlotRecord → ℕ → Bool
has_occupant r generation = is_alive r.occupancy && eqb r.generation generation

-- the handle names the living occupant of its slot
abbrev pub is_occupant : List SlotRecord → Handle → Bool
is_occupant records h = has_occupant (record_at records h.index) h.generation

pub ties : (a b : Handle) → eq_by_cmp handle_cmp a b
    ≡ (eqb a.index b.index && eqb a.generation b.generation)
ties a b = grind (arith, common_steps)

-- what stands in the list of the occupants from an index on
abbrev at_from : ℕ → List SlotRecord → Handle → Bool
at_from index records q =
    leb index q.index && has_occupant (get_or records (q.index - index) no_slot) q.generation

list_any-occupants : (index : ℕ) (records : List SlotRecord) (q : Handle)
    → list_any (eq_by_cmp handle_cmp q) (occupants index records) ≡ at_from index records q
list_any-occupants index [] q = search (rules, and-false)
list_any-occupants index (r ∷ records) q = grind (
  arith,
  common_steps,
  ties q (record { index = index; generation = r.generation }),
  list_any-occupants (index + 1) records q,
  tests_of q.index index,
)

-- the set of the occupants holds just these
pub contains_occupants : (records : List SlotRecord) (q : Handle)
    → sets.contains {R = handle_cmp} (sets.from_list (occupants 0 records)) q
    ≡ is_occupant records q
contains_occupants records q =
    search (rules, sets.contains-from_list, handle_cmp_total, list_any-occupants, le-leb)

absent_below : (index : ℕ) (records : List SlotRecord) (generation : ℕ)
    → sets.contains {R = handle_cmp} (sets.from_list
    (occupants (index + 1) records)) (record { index = index; generation = generation }) ≡ false
absent_below index records generation =
    search (rules, sets.contains-from_list, handle_cmp_total, list_any-occupants)

-- and no occupant twice, so it has as many as the list
pub len_occupants : (index : ℕ) (records : List SlotRecord)
    → sets.len {R = handle_cmp} (sets.from_list (occupants index records))
    ≡ length (occupants index records)
len_occupants index [] = sets.len-empty handle_cmp
len_occupants index (r ∷ records) = grind (
  arith,
  common_steps,
  sets.len-insert handle_cmp_total (sets.from_list (occupants (index + 1) records))
      (record { index = index; generation = r.generation }),
  absent_below index records r.generation,
  len_occupants (index + 1) records,
)

-- ---- one record set

-- so does the set
pub is_occupant-set : (records : List SlotRecord) (index : ℕ) (r : SlotRecord) (q : Handle)
    → index < length records → is_occupant (set records index r) q
    ≡ cond (eqb q.index index) (has_occupant r q.generation) (is_occupant records q)
is_occupant-set records index r q = search rules

abbrev pub one : Bool → ℕ
one b = cond b 1 0

-- how many occupants there are after one record is set
pub length-occupants-set : (from : ℕ) (records : List SlotRecord) (index : ℕ) (r : SlotRecord)
    → index < length records → length (occupants from (set records index r))
    + one (is_alive (record_at records index).occupancy)
    ≡ length (occupants from records) + one (is_alive r.occupancy)
length-occupants-set from [] index r within = absurd (omega arith)
length-occupants-set from (x ∷ records) zero r within = grind (arith, common_steps)
length-occupants-set from (x ∷ records) (suc index) r within = grind
    (arith, common_steps, length-occupants-set (from + 1) records index r)

-- ---- records put at the end

pub from_list-append : (xs ys : List Handle) → sets.from_list {R = handle_cmp} (xs ++ ys)
    ≡ sets.union (sets.from_list xs) (sets.from_list ys)
from_list-append xs ys =
    sets.same_set handle_cmp_total handle_cmp-IsAntisymmetric _ _
    (λ q.
    search (rules, sets.contains-from_list, handle_cmp_total, list_any-append, sets.contains-union))

pub occupants-append : (from : ℕ) (records more : List SlotRecord)
    → occupants from (records ++ more)
    ≡ occupants from records ++ occupants (from + length records) more
occupants-append from [] more = ap (λ n. occupants n more) (omega arith)
occupants-append from (r ∷ records) more =
    grind (arith, common_steps, occupants-append (from + 1) records more)

pub occupants-new : (from count : ℕ)
    → occupants from (replicate count new_record) ≡ fresh from count
unfolding fresh
occupants-new from zero = refl
occupants-new from (suc count) = search (rules, occupants-new (from + 1) count)

-- a handle that lives in the roster is that of an occupant
pub lives_in : (limits : Limits) (records : List SlotRecord) (pending : List ℕ) (h : Handle)
    {old : Roster} → roster_of limits records pending ≡ old → sets.contains old.live h ≡ true
    → is_occupant records h ≡ true
lives_in limits records pending h view lives = search (rules, contains_occupants)

pub occupant_made : (records : List SlotRecord) (h : Handle) → is_occupant records h ≡ true
    → h.index < length records
occupant_made records h is = grind (arith, common_steps)

pub occupant_alive : (records : List SlotRecord) (h : Handle) → is_occupant records h ≡ true
    → is_alive (record_at records h.index).occupancy ≡ true
occupant_alive records h is = search (rules, and_parts)

pub occupant_generation : (records : List SlotRecord) (h : Handle) → is_occupant records h ≡ true
    → (record_at records h.index).generation ≡ h.generation
occupant_generation records h is = grind (arith, common_steps)

-- ---- by rising slot

-- the occupants from an index on
occupants_after : (from index : ℕ) (records : List SlotRecord) → from ≤ index
    → All (λ h. from ≤ h.index) (occupants index records)
occupants_after from index [] least = λ k d l. absurd (omega (arith, l))
occupants_after from index (r ∷ records) least = grind
    (arith, common_steps, occupants_after from (index + 1) records (omega arith))

pub rising_occupants : (index : ℕ) (records : List SlotRecord)
    → AllPairs (λ g h. g.index < h.index) (occupants index records)
rising_occupants index [] = λ i j d l m. absurd (omega (arith, m))
rising_occupants index (r ∷ records) = search
    (rules, occupants_after, AllPairs-cons, rising_occupants (index + 1) records)

-- the row that a record keeps with its occupant of a generation
abbrev pub row_in : SlotRecord → ℕ → Option ℕ
row_in r generation = cond (eqb r.generation generation) (row_of r.occupancy) None

-- the row that is kept with the occupant that a handle names
abbrev pub row_at : List SlotRecord → Handle → Option ℕ
row_at records h = row_in (record_at records h.index) h.generation

-- ---- looking a row up

abbrev row_from : ℕ → List SlotRecord → Handle → Option ℕ
row_from index records q =
    cond (leb index q.index) (row_in (get_or records (q.index - index) no_slot) q.generation) None

find-rows_from : (index : ℕ) (records : List SlotRecord) (q : Handle)
    → find handle_cmp q (rows_from index records) ≡ row_from index records q
find-rows_from index [] q = search rules
find-rows_from index (r ∷ records) q = grind (
  arith,
  common_steps,
  ties q (record { index = index; generation = r.generation }),
  find-rows_from (index + 1) records q,
  eqb_sym q.generation r.generation,
  tests_of q.index index,
)

-- the map of the rows returns with these
pub get_rows : (records : List SlotRecord) (q : Handle)
    → maps.get {R = handle_cmp} (maps.from_entries (rows_from 0 records)) q ≡ row_at records q
get_rows records q = search (rules, maps.get-from_entries, handle_cmp_total, find-rows_from, le-leb)

-- ---- one record set

-- a record without a row instead of another one leaves the rows
pub rows_from-set : (from : ℕ) (records : List SlotRecord) (index : ℕ) (r : SlotRecord)
    → row_of r.occupancy ≡ None → row_of (record_at records index).occupancy ≡ None
    → rows_from from (set records index r) ≡ rows_from from records
rows_from-set from [] index r new old = refl
rows_from-set from (x ∷ records) zero r new old = search (rules)
rows_from-set from (x ∷ records) (suc index) r new old = search
    (rules, rows_from-set (from + 1) records index r new old)

-- ---- records put at the end

rows_from-new : (from count : ℕ) → rows_from from (replicate count new_record) ≡ []
rows_from-new from zero = refl
rows_from-new from (suc count) = rows_from-new (from + 1) count

pub rows_from-made : (from count : ℕ) (records : List SlotRecord)
    → rows_from from (records ++ replicate count new_record) ≡ rows_from from records
rows_from-made from count [] = rows_from-new from count
rows_from-made from count (r ∷ records) = search (rules, rows_from-made (from + 1) count records)
