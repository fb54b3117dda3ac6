-- What records and pending indexes stand for has an image, which is that of the records in order,
-- with their rows or without. Slots that are read one by one point at each other.
use Rattle.ent_alloc.proofs.Common.{◌≡◌, refl, sym, ap, ◌∙◌, ℕ, suc, ◌+◌, ◌^◌, ◌<◌, ◌≤◌, rules}
use Rattle.ent_alloc.proofs.Common.{true, cond, eqb, IsTrue, List, [], ◌∷◌, length, get_or, arith}
use Rattle.ent_alloc.proofs.Common.{None, Some, flat_map, range_with_len, common_steps, cases_lt}
use Rattle.ent_alloc.proofs.Common.{false≢true, eq-eqb, and_from, get_or-map, length-map}
use Rattle.ent_alloc.proofs.Common.{get_or_past, Handle, Limits, AreLimits, Roster, is_alive}
use Rattle.ent_alloc.proofs.Common.{row_of, record_at, handle_at, roster_of, AreLinked, occupied}
use Rattle.ent_alloc.proofs.Common.{slot, slots_bytes, AreSlots, number_of, record_bytes, kept}
use Rattle.ent_alloc.proofs.Common.{SlotRecord, Occupancy, AliveWithRow, Pending, Retired, ◌≢◌, map}
use Rattle.ent_alloc.proofs.Common.{flat_map-map, get_or_mapped, no_slot, occupants, rows_from}
use Rattle.ent_alloc.proofs.Common.{without_row, without_row_of, rowless_bytes, ◌⊎◌, inr, ◌++◌}
use Rattle.ent_alloc.proofs.Common.{take, drop, cases_eq, length-append, length_push, get_or_push}
use Rattle.ent_alloc.proofs.Common.{get_or_append_left, get_or-set_same, get_or-set_other}
use Rattle.ent_alloc.proofs.Common.{length-set, drop_all, take_all, append-nil, IsGeneration}
use Rattle.ent_alloc.proofs.Common.{vacant, CanWait, with_waiting, AreRead}
use Rattle.std.specs.FinSet as sets
use Rattle.std.specs.FinMap as maps
use Rattle.ent_alloc.proofs.Occupants.{is_occupant, contains_occupants, get_rows, occupant_made}
use Rattle.ent_alloc.proofs.Occupants.{occupant_alive, occupant_generation, one, occupants-append}
use Rattle.ent_alloc.proofs.ImageSlots.{Lives, Waits, Gone, became, slot_lives, slot_waits}
use Rattle.ent_alloc.proofs.ImageSlots.{no_handle}

-- Records and pending indexes that point at each other.
pub record AreTied (limits : Limits) (records : List SlotRecord) (pending : List ℕ) : Type 0 where
  pub limited : AreLimits limits
  pub few : length records ≤ limits.slots
  pub least : (index : ℕ) → index < length records → 1 ≤ (record_at records index).generation
  pub greatest : (index : ℕ) → index < length records
      → (record_at records index).generation ≤ limits.generations
  pub made : (position : ℕ) → position < length pending → get_or pending position 0 < length records
  pub forward : (position : ℕ) → position < length pending
      → (record_at records (get_or pending position 0)).occupancy ≡ Pending position
  pub listed : (index position : ℕ) → index < length records
      → (record_at records index).occupancy ≡ Pending position → position < length pending
  pub back : (index position : ℕ) → index < length records
      → (record_at records index).occupancy ≡ Pending position → get_or pending position 0 ≡ index
  pub rows : (index row : ℕ) → index < length records
      → (record_at records index).occupancy ≡ AliveWithRow row → row < 2 ^ 32

pub tied : (limits : Limits) (records : List SlotRecord) (pending : List ℕ) (retired : ℕ)
    → AreLinked limits records pending retired → ((index : ℕ) → index < length records
    → number_of (record_at records index).occupancy < 2 ^ 32) → AreTied limits records pending
tied limits records pending retired linked fits = grind (arith, common_steps)

-- ---- the records

row_alive : (t : Occupancy) (row : ℕ) → row_of t ≡ Some row → t ≡ AliveWithRow row
row_alive (AliveWithRow other) row is = cc
row_alive _ row is = cc

kept_row : (r : SlotRecord) (generation row : ℕ)
    → cond (eqb r.generation generation) (row_of r.occupancy) None ≡ Some row
    → row_of r.occupancy ≡ Some row
kept_row r generation row is = grind (arith, common_steps)

no_row : (r : SlotRecord) (generation : ℕ)
    → ((is_alive r.occupancy ≡ true) → eqb r.generation generation ≡ true → ⊥)
    → cond (eqb r.generation generation) (row_of r.occupancy) None ≡ None
no_row r generation not_both = grind (arith, common_steps)

row_made : (records : List SlotRecord) (index row : ℕ)
    → row_of (record_at records index).occupancy ≡ Some row → index < length records
row_made records index row is = grind (arith, common_steps, cases_lt, get_or_past)

pieces_of : (g : SlotRecord → List ℕ) (f : ℕ → List ℕ) (from : ℕ) (records : List SlotRecord)
    → ((k : ℕ) → k < length records → f (from + k) ≡ g (record_at records k))
    → flat_map f (range_with_len from (length records)) ≡ flat_map g records
pieces_of g f from [] each = refl
pieces_of g f from (r ∷ records) each =
    search (
      rules,
      arith,
      each 0,
      pieces_of g f (from + 1) records (λ k lt. search (rules, arith, each (suc k))),
    )

module _ (limits : Limits) (records : List SlotRecord) (pending : List ℕ)
    (tied : AreTied limits records pending) where
  abbrev stands : Roster
  stands = roster_of limits records pending

  long : length stands.pending ≡ length pending
  long = length-map pending (handle_at records)

  at : (position : ℕ) (d : Handle) → position < length pending
      → get_or stands.pending position d ≡ handle_at records (get_or pending position 0)
  at position d lt = get_or-map (handle_at records) pending position 0 d lt

  occupant : (h : Handle) → IsTrue (sets.contains stands.live h) → is_occupant records h ≡ true
  occupant h lives = sym (contains_occupants records h) ∙ lives

  pub are_slots : AreSlots stands
  are_slots = search (
    rules,
    occupant_generation,
    occupant_made,
    occupant_alive,
    false≢true,
    long,
    at,
    get_rows,
    no_row,
    contains_occupants,
    and_from,
    kept_row,
    row_made,
    row_alive,
  )

  -- ---- what is written of each

  pub slot_is : (index : ℕ) → index < length records
      → slot stands index ≡ kept (record_at records index)
  slot_is index made = by_occupancy (record_at records index).occupancy refl
    where
      alive_slot : is_alive (record_at records index).occupancy ≡ true
          → slot stands index ≡ occupied (record_at records index).generation
          (row_of (record_at records index).occupancy)
      alive_slot alive = search (
        rules,
        slot_lives stands are_slots (handle_at records index),
        contains_occupants,
        and_from,
        eq-eqb,
        get_rows records (handle_at records index),
      )

      by_occupancy : (t : Occupancy) → (record_at records index).occupancy ≡ t
          → slot stands index ≡ kept (record_at records index)
      by_occupancy (Pending position) is = search (
        rules,
        arith,
        tied.listed index position made,
        tied.back index position made,
        at position no_handle,
        slot_waits stands are_slots position,
        long,
      )
      by_occupancy Retired is = rw is (elim (became stands index) [
        | Lives h alive same tells ↦ let lives = occupant_alive records h (occupant h alive) in
            absurd cc
        | Waits position lt same tells ↦
            let pending_at = tied.forward position (omega (arith, long)) in
            let index_is = at position no_handle (omega (arith, long)) in
            absurd cc
        | Gone _ none tells ↦ tells
      ])
      by_occupancy _ is = rw is (rw is at (alive_slot (ap is_alive is)))

  pub slots_bytes_are : slots_bytes stands ≡ flat_map record_bytes records
  unfolding slots_bytes
  slots_bytes_are = search (rules, pieces_of, at, slot_is)

-- ---- one record

row_left : (t : Occupancy) → (is_alive (without_row_of t) ≡ is_alive t)
    × (row_of (without_row_of t) ≡ None)
row_left Retired = (refl, refl)
row_left _ = (refl, refl)

pending_as : (t : Occupancy) (position : ℕ) → without_row_of t ≡ Pending position
    → t ≡ Pending position
pending_as (Pending other) position is = is
pending_as _ position is = cc

never_with_row : (t : Occupancy) (row : ℕ) → without_row_of t ≢ AliveWithRow row
never_with_row Retired row is = cc
never_with_row _ row is = cc

-- ---- all of them

rowless_at : (records : List SlotRecord) (index : ℕ) → record_at (map without_row records) index
    ≡ without_row (record_at records index)
rowless_at records index = get_or_mapped without_row records index no_slot

occupants_as : (index : ℕ) (records : List SlotRecord)
    → occupants index (map without_row records) ≡ occupants index records
occupants_as index [] = refl
occupants_as index (r ∷ records) = search (rules, row_left, occupants_as (index + 1) records)

no_rows : (index : ℕ) (records : List SlotRecord) → rows_from index (map without_row records) ≡ []
no_rows index [] = refl
no_rows index (r ∷ records) = search (rules, row_left, no_rows (index + 1) records)

-- the same slots, without rows
pub rowless_is : (limits : Limits) (records : List SlotRecord) (pending : List ℕ)
    → roster_of limits (map without_row records) pending ≡ record (roster_of limits records pending)
    { rows = maps.empty }
rowless_is limits records pending = search (rules, occupants_as, no_rows, rowless_at, length-map)

rowless_tied : (limits : Limits) (records : List SlotRecord) (pending : List ℕ) (retired : ℕ)
    → AreLinked limits records pending retired → AreTied limits (map without_row records) pending
rowless_tied limits records pending retired linked = search
    (rules, length-map, rowless_at, pending_as, never_with_row)

pub rowless_slots : (limits : Limits) (records : List SlotRecord) (pending : List ℕ) (retired : ℕ)
    → AreLinked limits records pending retired
    → AreSlots (record (roster_of limits records pending) { rows = maps.empty })
rowless_slots limits records pending retired linked =
    rw (← rowless_is limits records pending)
    (are_slots limits (map without_row records) pending
    (rowless_tied limits records pending retired linked))

-- what is written of them
pub rowless_bytes_are : (limits : Limits) (records : List SlotRecord) (pending : List ℕ) (retired : ℕ)
    → AreLinked limits records pending retired → flat_map rowless_bytes records
    ≡ slots_bytes (record (roster_of limits records pending) { rows = maps.empty })
rowless_bytes_are limits records pending retired linked =
    search (
      rules,
      flat_map-map record_bytes without_row records,
      rowless_is limits records pending,
      slots_bytes_are limits (map without_row records) pending
          (rowless_tied limits records pending retired linked),
    )

-- ---- one slot more

-- what is so of each record, and of one more
each_more : (P : ℕ → SlotRecord → Type 0) (records : List SlotRecord) (s : SlotRecord)
    → ((index : ℕ) → index < length records → P index (record_at records index))
    → P (length records) s → (index : ℕ) → index < length (records ++ s ∷ [])
    → P index (record_at (records ++ s ∷ []) index)
each_more P records s each last index lt =
    search (rules, cases_lt, get_or_append_left, length_push, get_or_push)

pub length-with_waiting : (pending : List ℕ) (t : Occupancy) (index : ℕ)
    → length (with_waiting pending t index) ≡ length pending
length-with_waiting pending (Pending position) index = length-set pending position index
length-with_waiting pending _ index = refl

module _ (limits : Limits) (records : List SlotRecord) (pending : List ℕ) (live : ℕ)
    (read : AreRead limits records pending live) where
  -- the next slot waits at a position, which was vacant, or the position stays as it was
  placed : (t : Occupancy) (at : ℕ) → CanWait pending t
      → ((t ≡ Pending at) × (get_or (with_waiting pending t (length records)) at 0 ≡ length records)
      × (at < length pending) × (get_or pending at 0 ≡ vacant)) ⊎ ((t ≢ Pending at)
      × (get_or (with_waiting pending t (length records)) at 0 ≡ get_or pending at 0))
  placed (Pending position) at can =
      search (rules, cases_eq position at, get_or-set_same, get_or-set_other)
  placed _ at can = inr ((λ is. cc), refl)

  -- the next slot
  pub read_more : (s : SlotRecord) → IsGeneration limits s.generation
      → number_of s.occupancy < 2 ^ 32 → CanWait pending s.occupancy → length records < vacant
      → AreRead limits (records ++ s ∷ []) (with_waiting pending s.occupancy (length records))
      (live + one (is_alive s.occupancy))
  read_more s generation number can few =
      let long = length-with_waiting pending s.occupancy (length records) in
      let more = length_push records s in
      let it = λ (at : ℕ). placed s.occupancy at can in
      record {
        counted = search (rules, occupants-append, length-append, common_steps);
        generations =
            each_more (λ _ r. IsGeneration limits r.generation) records s read.generations
            generation;
        numbers = each_more (λ _ r. number_of r.occupancy < 2 ^ 32) records s read.numbers number;
        made = λ at below taken. search (rules, arith, it at, read.made at);
        forward = λ at below taken. search
            (rules, arith, it at, read.made at, read.forward at, get_or_push, get_or_append_left);
        listed = λ index at below is. search (
          rules,
          arith,
          cases_lt index (length records),
          get_or_append_left,
          get_or_push,
          it at,
          read.listed index at,
        );
        back = λ index at below is. search (
          rules,
          arith,
          cases_lt index (length records),
          get_or_append_left,
          get_or_push,
          it at,
          read.back index at,
        );
      }

-- ---- no slot yet, and all

pub read_all : (limits : Limits) (records : List SlotRecord) (pending : List ℕ) (live : ℕ)
    → AreRead limits records pending live → AreLimits limits → length records ≤ limits.slots
    → ((position : ℕ) → position < length pending → get_or pending position 0 ≢ vacant)
    → AreTied limits records pending
read_all limits records pending live read limited few taken = search (rules)

-- ---- positions that were lent and came back

pub written_back : (len : ℕ) (items new : List ℕ) → length new ≡ length items → len ≡ length items
    → take len (new ++ drop (length new) items) ≡ new
written_back len items new long all = search (rules, drop_all, append-nil, take_all)
