-- Where a slot of an image is refused, no slots of an allocator have the bytes for their image, and
-- what the tests of slots answer of bytes of which some have been read.
use Rattle.ent_alloc.proofs.Common.{◌≡◌, ◌≢◌, refl, ◌∙◌, ℕ, zero, suc, ◌+◌, ◌-◌, ◌^◌, ◌<◌, rules}
use Rattle.ent_alloc.proofs.Common.{◌≤◌, List, [], ◌∷◌, ◌++◌, length, get_or, arith, flat_map}
use Rattle.ent_alloc.proofs.Common.{range_with_len, cases_eq, append_assoc, Limits, AreLimits}
use Rattle.ent_alloc.proofs.Common.{Roster, record_at, word, slot, slot_bytes, slots_bytes}
use Rattle.ent_alloc.proofs.Common.{AreSlots, number_of, kind_of, kept, record_bytes, IsGeneration}
use Rattle.ent_alloc.proofs.Common.{IsWritten, vacant, CanWait, AreRead, SlotRecord, Occupancy}
use Rattle.ent_alloc.proofs.Common.{Pending, Retired, sym, false, Option, None, Some, IfSome}
use Rattle.ent_alloc.proofs.Common.{IfNone, long, is_slot, word_at, Alive, append-nil, ap, ◌*◌}
use Rattle.ent_alloc.proofs.Common.{true, ◌&&◌, and-false, eqb, map, common_steps, length-append}
use Rattle.ent_alloc.proofs.Common.{kept_generation, generation_of, kind_in, number_in, waits_at}
use Rattle.ent_alloc.proofs.Common.{is_taken, has_place, slot_test, position_test, slots_tests}
use Rattle.ent_alloc.proofs.Common.{first_failing, Test, Slot, Position}
use Rattle.ent_handle.proofs.Spelled.{same_parts, same_words}
use Rattle.ent_alloc.proofs.ImageWords.{IsSmall, same_slot, length-slot_bytes, kind_below}
use Rattle.ent_alloc.proofs.ImageWords.{first_word, second_word, third_word, word_past, word_before}
use Rattle.ent_alloc.proofs.ImageSlots.{waiter, small, slot_waits, waits_from, written}
use Rattle.ent_alloc.proofs.ImageFront.{each_passes, fails_at, failed_before, passed_before, one_is}
use Rattle.ent_alloc.proofs.ImageFront.{none_is}

-- ---- pieces and what follows them

record IsSplit (f : ℕ → List ℕ) (g : SlotRecord → List ℕ) (from count : ℕ)
    (records : List SlotRecord)
    (rest : List ℕ) : Type 0 where
  each : (k : ℕ) → k < length records → f (from + k) ≡ g (record_at records k)
  left : rest ≡ flat_map f (range_with_len (from + length records) (count - length records))

module _ (f : ℕ → List ℕ) (g : SlotRecord → List ℕ) (n : ℕ) (long_f : (i : ℕ) → length (f i) ≡ n)
    (long_g : (s : SlotRecord) → length (g s) ≡ n) where
  each_of : (from : ℕ) (r : SlotRecord) (records : List SlotRecord)
      → ((k : ℕ) → k < length records → f (from + 1 + k)
      ≡ g (record_at records k)) → f (from + 0) ≡ g r → (k : ℕ) → k < length (r ∷ records)
      → f (from + k) ≡ g (record_at (r ∷ records) k)
  each_of from r records rest first zero lt = first
  each_of from r records rest first (suc k) lt = search rules

  split : (from count : ℕ) (records : List SlotRecord) (rest : List ℕ) → length records ≤ count
      → flat_map f (range_with_len from count) ≡ flat_map g records ++ rest
      → IsSplit f g from count records rest
  split from count [] rest le same = search (rules)
  split from zero (r ∷ records) rest le same = absurd (omega arith)
  split from (suc count) (r ∷ records) rest le same =
      search (
        rules,
        arith,
        append_assoc,
        same_parts n (f from) (flat_map f (range_with_len (from + 1) count)) (g r)
            (flat_map g records ++ rest),
        long_f,
        long_g,
        split (from + 1) count records rest,
        each_of,
      )

-- the words of a slot, and what follows it
pub slot_in_words : (s : SlotRecord) (rest : List ℕ) → slot_bytes s ++ rest ≡ word s.generation
    ++ (word (kind_of s.occupancy) ++ (word (number_of s.occupancy) ++ rest))
unfolding slot_bytes
slot_in_words s rest = search (rules, append_assoc)

written_below : (limits : Limits) → AreLimits limits → (g : ℕ) (t : Occupancy)
    → IsWritten limits g t → (g < 2 ^ 32) × (number_of t < 2 ^ 32)
written_below limits within g Retired is = (omega arith, omega arith)
written_below limits within g _ is = search rules

-- three words that no slot is written as
pub not_written : (limits : Limits) (g k n : ℕ) (rest : List ℕ) → AreLimits limits → g < 2 ^ 32
    → k < 2 ^ 32 → n < 2 ^ 32
    → ((s : SlotRecord) → IsWritten limits s.generation s.occupancy → s.generation ≡ g
    → kind_of s.occupancy ≡ k → number_of s.occupancy ≢ n) → (s : SlotRecord) (more : List ℕ)
    → IsWritten limits s.generation s.occupancy
    → word g ++ (word k ++ (word n ++ rest)) ≢ slot_bytes s ++ more
not_written limits g k n rest within hg hk hn none s more is same = search
    (rules, written_below, same_words, slot_in_words, kind_below)

-- ---- slots whose image begins with these records

module _ (r : Roster) (are : AreSlots r) where
  abbrev piece : ℕ → List ℕ
  piece index = slot_bytes (slot r index)

  begins : (records : List SlotRecord) (rest : List ℕ) → length records ≤ r.made
      → slots_bytes r ≡ flat_map record_bytes records ++ rest
      → IsSplit piece record_bytes 0 r.made records rest
  unfolding slots_bytes
  begins records rest le same = split piece record_bytes 12 (λ i. length-slot_bytes (slot r i))
      (λ s. length-slot_bytes (kept s)) 0 r.made records rest le same

  -- a record that is written as the slot is
  same_kept : (index : ℕ) (s : SlotRecord) → IsGeneration r.limits s.generation
      → number_of s.occupancy < 2 ^ 32 → slot_bytes (slot r index) ≡ record_bytes s
      → slot r index ≡ kept s
  same_kept index s generation number same = search (rules, same_slot, small, IsSmall)

  -- a record that waits, if the slot is written so
  waits_as : (index position : ℕ) (s : SlotRecord) → slot r index ≡ kept s
      → s.occupancy ≡ Pending position
      → (position < length r.pending) × ((waiter r position).index ≡ index)
  waits_as index position s is waits =
      let found = waits_from r are index position s.generation (is ∙ rw waits refl) in
      search rules

  module _ (records : List SlotRecord) (pending rest : List ℕ) (live : ℕ)
      (read : AreRead r.limits records pending live)
      (le : length records ≤ r.made)
      (same : slots_bytes r ≡ flat_map record_bytes records ++ rest) where
    so_far : (k : ℕ) → k < length records → slot r k ≡ kept (record_at records k)
    so_far k lt = search (rules, same_kept, begins)

    -- each position has a slot
    pub position_taken : length records ≡ r.made → length pending ≡ length r.pending
        → (position : ℕ) → position < length pending → get_or pending position 0 ≢ vacant
    position_taken all long position lt vacant_there =
        let index = (waiter r position).index in
        search (
          rules,
          arith,
          so_far index,
          slot_waits r are position,
          read.back index position,
          are.limits.slots,
          are.made,
          are.waiting_made,
        )

    -- a slot that waits where another one does
    pub can_wait : length pending ≡ length r.pending → (s : SlotRecord)
        → slot r (length records) ≡ kept s → CanWait pending s.occupancy
    can_wait long s is = by_occupancy s.occupancy refl
      where
        by_occupancy : (t : Occupancy) → s.occupancy ≡ t → CanWait pending t
        by_occupancy (Pending position) waits =
            let j = get_or pending position 0 in
            search (
              rules,
              arith,
              waits_as (length records) position s is waits,
              cases_eq j vacant,
              read.made position,
              read.forward position,
              so_far j,
              waits_as j position (record_at records j),
            )
        by_occupancy _ waits = tt

  -- bytes that begin with no slot
  pub no_slot_next : (records : List SlotRecord) (bytes : List ℕ) → length records < r.made
      → ((s : SlotRecord) (rest : List ℕ) → IsWritten r.limits s.generation s.occupancy
      → bytes ≢ slot_bytes s ++ rest) → slots_bytes r ≡ flat_map record_bytes records ++ bytes → ⊥
  no_slot_next records bytes lt none same =
      search (rules, arith, begins records bytes (omega arith) same, written)

  -- the next slot, as it is written
  pub next_slot : (records : List SlotRecord) (rest : List ℕ) (s : SlotRecord)
      → length records < r.made → IsGeneration r.limits s.generation
      → number_of s.occupancy < 2 ^ 32
      → slots_bytes r ≡ flat_map record_bytes records ++ (record_bytes s ++ rest)
      → slot r (length records) ≡ kept s
  next_slot records rest s lt generation number same = search (
    rules,
    arith,
    same_kept (length records) s,
    begins records (record_bytes s ++ rest) (omega arith) same,
    same_parts 12 (record_bytes s) rest (piece (length records)),
    length-slot_bytes,
  )

-- ---- a slot that is read of its twelve bytes

-- what is so if there is none
pub if_none : {T : Type 0} (r : Option T) (P Q : Type 0) → IfNone r P → (P → Q) → IfNone r Q
if_none None P Q is then = then is
if_none _ P Q is then = tt

no_more : (rest : List ℕ) → length rest ≡ 0 → rest ≡ []
no_more [] none = refl
no_more (x ∷ rest) none = absurd (omega arith)

module _ (bytes : List ℕ) (g k n : ℕ) (rest : List ℕ)
    (words : bytes ≡ word g ++ (word k ++ (word n ++ rest)))
    (all : length rest ≡ 0) where
  pub spelled : (r : Option SlotRecord) → IfSome r (λ s. (kept s).generation ≡ g)
      → IfSome r (λ s. kind_of s.occupancy ≡ k) → IfSome r (λ s. number_of s.occupancy ≡ n)
      → IfSome r (λ s. bytes ≡ record_bytes s)
  spelled None generation kind number = tt
  spelled (Some s) generation kind number =
      let bytes_are = slot_in_words (kept s) rest in
      rw (words, ← generation, ← kind, ← number, ← bytes_are, no_more rest all, append-nil) refl

  module _ (limits : Limits) (within : AreLimits limits) (hg : g < 2 ^ 32) (hk : k < 2 ^ 32)
      (hn : n < 2 ^ 32) where
    pub none_spelled : (r : Option SlotRecord)
        → IfNone r ((s : SlotRecord) → IsWritten limits s.generation s.occupancy → s.generation ≡ g
        → kind_of s.occupancy ≡ k → number_of s.occupancy ≢ n) → IfNone r ((s : SlotRecord)
        → IsWritten limits s.generation s.occupancy → bytes ≢ slot_bytes s)
    none_spelled r none =
        if_none r _ _ none
        (λ not s is same. not_written limits g k n rest within hg hk hn not s [] is
        (sym words ∙ same ∙ sym (append-nil (slot_bytes s))))

    pub no_row : (r : Option SlotRecord) → IfNone r (is_slot limits.generations g k n ≡ false)
        → IfNone r
        (is_slot limits.generations (word_at bytes 0) (word_at bytes 4) (word_at bytes 8) ≡ false)
    no_row r none = search (rules, if_none, first_word, second_word, third_word)

pub living_bytes : (bytes : List ℕ) (g n : ℕ) (rest more : List ℕ) → bytes ≡ word g ++ rest
    → rest ≡ long n ++ more
    → n ≡ 1 → length more ≡ 0 → bytes ≡ record_bytes (record { generation = g; occupancy = Alive })
unfolding slot_bytes long word
living_bytes bytes g n rest more first second one none =
    rw (first, second, one, no_more more none) refl

-- ---- the words of slots

pub record IsSpelled (slots : List ℕ) (index : ℕ) (s : SlotRecord) : Type 0 where
  pub generation : generation_of slots index ≡ s.generation
  pub kind : kind_in slots index ≡ kind_of s.occupancy
  pub number : number_in slots index ≡ number_of s.occupancy

small_kept : (limits : Limits) → AreLimits limits → (g : ℕ) (t : Occupancy) → IsGeneration limits g
    → number_of t < 2 ^ 32 → IsSmall (kept (record { generation = g; occupancy = t }))
small_kept limits within g Retired is fits = record { generation = omega arith; number = fits }
small_kept limits within g _ is fits = grind (arith, common_steps)

first_spelled : (s : SlotRecord) (rest : List ℕ) → IsSmall (kept s)
    → IsSpelled (record_bytes s ++ rest) 0 (kept s)
first_spelled s rest fits =
    grind (arith, common_steps, slot_in_words, first_word, second_word, kind_below, third_word)

next_spelled : (front more : List ℕ) (n index at : ℕ) (s : SlotRecord) → length front ≡ 12 * n
    → at ≡ n + index → IsSpelled more index s → IsSpelled (front ++ more) at s
next_spelled front more n index at s all here is =
    search (rules, arith, word_past, is.generation, is.kind, is.number)

all_spelled : (records : List SlotRecord) (rest : List ℕ)
    → ((k : ℕ) → k < length records → IsSmall (kept (record_at records k))) → (k : ℕ)
    → k < length records
    → IsSpelled (flat_map record_bytes records ++ rest) k (kept (record_at records k))
all_spelled [] rest fits k lt = absurd (omega arith)
all_spelled (r ∷ records) rest fits zero lt =
    rw append_assoc (first_spelled r (flat_map record_bytes records ++ rest) (fits 0 (omega arith)))
all_spelled (r ∷ records) rest fits (suc k) lt =
    search (
      rules,
      arith,
      append_assoc,
      next_spelled (record_bytes r) (flat_map record_bytes records ++ rest) 1 k (suc k)
          (kept (record_at records k)),
      length-slot_bytes (kept r),
      all_spelled records rest (λ i below. fits (suc i) (omega arith)) k,
    )

pub length-records : (records : List SlotRecord)
    → length (flat_map record_bytes records) ≡ 12 * length records
length-records [] = refl
length-records (r ∷ records) =
    grind (arith, common_steps, length-append, length-slot_bytes, length-records records)

-- ---- what a slot's words tell

row_of_kept : (limits : Limits) (g : ℕ) (t : Occupancy) → IsGeneration limits g
    → is_slot limits.generations (kept_generation t g) (kind_of t) (number_of t) ≡ true
row_of_kept limits g Retired is = refl
row_of_kept limits g _ is = search rules

waits_elsewhere : (t : Occupancy) (kind number position : ℕ) → kind ≡ kind_of t
    → number ≡ number_of t → t ≢ Pending position → (eqb kind 3 && eqb number position) ≡ false
waits_elsewhere (Pending q) kind number position is at other = grind (arith, common_steps, cases_eq)
waits_elsewhere _ kind number position is at other = grind (arith, common_steps)

-- ---- the slots that were read, and the next one

module _ (limits : Limits) (within : AreLimits limits) (records : List SlotRecord)
    (pending rest slots : List ℕ)
    (live : ℕ) (read : AreRead limits records pending live)
    (same : slots ≡ flat_map record_bytes records ++ rest) where
  spelled_at : (k : ℕ) → k < length records → IsSpelled slots k (kept (record_at records k))
  spelled_at k lt = rw same (all_spelled records rest (λ i below. small_kept limits within _ _
      (read.generations i below) (read.numbers i below)) k lt)

  waits : (j position : ℕ) → j < length records → (record_at records j).occupancy ≡ Pending position
      → waits_at slots position j ≡ true
  waits j position lt is = let words = spelled_at j lt in grind (arith, common_steps)

  waits_not : (j position : ℕ) → j < length records
      → (record_at records j).occupancy ≢ Pending position → waits_at slots position j ≡ false
  waits_not j position lt other = let words = spelled_at j lt in search (rules, waits_elsewhere)

  -- a position that some slot waits at, and one that none does
  taken : (count position : ℕ) → count ≤ length records → position < length pending
      → get_or pending position 0 ≢ vacant → get_or pending position 0 < count
      → is_taken slots count position ≡ true
  taken count position le lt other below = search (
    rules,
    arith,
    one_is (waits_at slots position) 0 count (get_or pending position 0),
    waits (get_or pending position 0) position,
    read.forward position,
  )

  untaken : (count position : ℕ) → count ≤ length records
      → ((j : ℕ) → j < count → (record_at records j).occupancy ≢ Pending position)
      → is_taken slots count position ≡ false
  untaken count position le none = search (rules, none_is, waits_not)

  abbrev tested : ℕ → Test
  tested = slot_test limits.generations (length pending) slots

  place_of : (k : ℕ) (t : Occupancy) → k < length records → (record_at records k).occupancy ≡ t
      → has_place slots (length pending) k ≡ true
  place_of k (Pending position) lt is =
      let number = (spelled_at k lt).number ∙ ap number_of is in
      let below = read.listed k position lt is in
      let here = read.back k position lt is in
      let free : is_taken slots k (number_in slots k) ≡ false = search (rules, untaken, waits) in
      grind (arith, common_steps)
  place_of k _ lt is =
      let kind = (spelled_at k lt).kind ∙ ap kind_of is in grind (arith, common_steps)

  passes : (k : ℕ) → k < length records → (tested k).0 ≡ true
  passes k lt = grind (arith, common_steps, spelled_at, row_of_kept, place_of)

  module _ (made : ℕ) where
    abbrev slots_then : List Test
    slots_then = slots_tests limits.generations made (length pending) slots

    slot_fault : length records < made → (tested (length records)).0 ≡ false
        → first_failing slots_then ≡ Some (Slot (length records))
    slot_fault lt fails =
        failed_before (map tested (range_with_len 0 made)) _ (Slot (length records))
        (fails_at tested 0 made (length records) (omega arith) (omega arith)
        (λ j least before. passes j before) fails)

    -- a slot that is of no row of the table
    pub no_row_next : (slot more : List ℕ) → rest ≡ slot ++ more → length slot ≡ 12
        → is_slot limits.generations (word_at slot 0) (word_at slot 4) (word_at slot 8) ≡ false
        → length records < made → first_failing slots_then ≡ Some (Slot (length records))
    no_row_next slot more cut all none_is_it lt =
        let first = 12 * length records in
        let past = word_past (flat_map record_bytes records) (slot ++ more) first in
        slot_fault lt (search (
          rules,
          arith,
          length-records records,
          past 0 first,
          past 4 (first + 4),
          past 8 (first + 8),
          word_before slot more 0,
          word_before slot more 4,
          word_before slot more 8,
        ))

    -- a slot that has no place to wait at
    pub no_place_next : (s : SlotRecord) (more : List ℕ) → rest ≡ record_bytes s ++ more
        → IsGeneration limits s.generation → number_of s.occupancy < 2 ^ 32
        → ¬ (CanWait pending s.occupancy) → length records < made
        → first_failing slots_then ≡ Some (Slot (length records))
    no_place_next s more cut generation number not_can lt =
        let there =
        next_spelled (flat_map record_bytes records) (record_bytes s ++ more) (length records) 0
        (length records) (kept s) (length-records records) (omega arith) (first_spelled s more
        (small_kept limits within s.generation s.occupancy generation number)) in
        let words = rw (← cut, ← same) at there in
        slot_fault lt
        (search (rules, by_occupancy s.occupancy not_can words.kind words.number, and-false))
      where
        by_occupancy : (t : Occupancy) → ¬ (CanWait pending t)
            → kind_in slots (length records) ≡ kind_of t
            → number_in slots (length records) ≡ number_of t
            → has_place slots (length pending) (length records) ≡ false
        by_occupancy (Pending position) not_can kind at =
            grind (arith, common_steps, taken, read.made)
        by_occupancy _ not_can kind at = absurd (not_can tt)

    -- ---- all slots, and the positions

    module _ (all : length records ≡ made) where
      position_passes : (position : ℕ) → position < length pending
          → get_or pending position 0 ≢ vacant → (position_test made slots position).0 ≡ true
      position_passes position lt other = grind (arith, common_steps, taken)

      pub no_fault :
          ((position : ℕ) → position < length pending → get_or pending position 0 ≢ vacant)
          → first_failing slots_then ≡ None
      no_fault each = search (rules, passed_before, each_passes, passes, position_passes)

      pub position_free : (position : ℕ) → made ≤ limits.slots → position < length pending
          → get_or pending position 0 ≡ vacant
          → ((before : ℕ) → before < position → get_or pending before 0 ≢ vacant)
          → first_failing slots_then ≡ Some (Position position)
      position_free position few lt free first = search (
        rules,
        arith,
        untaken made position,
        read.back,
        within.slots,
        passed_before (map tested (range_with_len 0 made))
            (map (position_test made slots) (range_with_len 0 (length pending))),
        each_passes tested 0 made,
        passes,
        fails_at (position_test made slots) 0 (length pending) position,
        position_passes,
        first,
      )
