-- What is written of each slot, and that it tells the slots.
use Rattle.ent_alloc.proofs.Common.{reverse, get_or-reverse, length-reverse, IsSound, allocator_of}
use Rattle.ent_alloc.proofs.Common.{AreApart, IsPermutation-reverse, zero-add, cases_Bool, ◌≡◌, ◌≢◌}
use Rattle.ent_alloc.proofs.Common.{refl, sym, ◌∙◌, ℕ, zero, suc, ◌+◌, rules, ◌^◌, ◌<◌, ◌≤◌, ◌⊎◌}
use Rattle.ent_alloc.proofs.Common.{true, IsTrue, List, [], ◌∷◌, length, get_or, arith, All}
use Rattle.ent_alloc.proofs.Common.{Contains, Option, None, Some, inl, inr, cases_eq, cases_lt}
use Rattle.ent_alloc.proofs.Common.{eq-eqb, ne_eqb, false≢true, get_or_default, same_lists, Handle}
use Rattle.ent_alloc.proofs.Common.{handle_cmp_total, handle_cmp-IsAntisymmetric, Roster}
use Rattle.ent_alloc.proofs.Common.{SlotRecord, Pending, is_alive, row_of, occupied, retired_slot}
use Rattle.ent_alloc.proofs.Common.{waiting_slot, living_slot, slot, AreSlots, Limits, IsGeneration}
use Rattle.ent_alloc.proofs.Common.{IsWritten}
use Rattle.std.specs.FinSet as set
use Rattle.std.specs.FinMap as map
use Rattle.ent_alloc.proofs.HandleSets.{Contains-from_stands_in, stands_in-from_Contains}
use Rattle.ent_alloc.proofs.ListLaws.{AllPairs-IsPermutation}
use Rattle.ent_alloc.proofs.Replies.{apart_both}
use Rattle.ent_alloc.proofs.LaidOut.{laid_out-sound}
use Rattle.ent_alloc.proofs.Meaning.{top_is}
use Rattle.ent_alloc.proofs.Retired.{retired-rest}
use Rattle.ent_alloc.proofs.ImageWords.{IsSmall}

-- what stands past the last handle
abbrev pub no_handle : Handle
no_handle = record { index = 0; generation = 0 }

-- the handle that waits at a position
abbrev pub waiter : Roster → ℕ → Handle
waiter r position = get_or r.pending position no_handle

abbrev pub handle : ℕ → ℕ → Handle
handle index generation = record { index = index; generation = generation }

abbrev pub pending_slot : Handle → ℕ → SlotRecord
pending_slot h position = record { generation = h.generation; occupancy = Pending position }

-- ---- occupied slots

occupied_is : (generation : ℕ) (row : Option ℕ)
    → ((occupied generation row).generation ≡ generation)
    × (row_of (occupied generation row).occupancy ≡ row)
    × (is_alive (occupied generation row).occupancy ≡ true)
occupied_is generation None = (refl, refl, refl)
occupied_is generation (Some row) = (refl, refl, refl)

small_occupied : (generation : ℕ) (row : Option ℕ) → generation < 2 ^ 32
    → ((n : ℕ) → row ≡ Some n → n < 2 ^ 32) → IsSmall (occupied generation row)
small_occupied generation None below fits = search (rules, arith)
small_occupied generation (Some row) below fits = search rules

written_occupied : (limits : Limits) (generation : ℕ) (row : Option ℕ)
    → IsGeneration limits generation → ((n : ℕ) → row ≡ Some n → n < 2 ^ 32)
    → IsWritten limits (occupied generation row).generation (occupied generation row).occupancy
written_occupied limits generation None within fits = within
written_occupied limits generation (Some row) within fits = (within, fits row refl)

-- ---- each slot

-- what became of a slot, and what is written of it
pub data Became (r : Roster) (index : ℕ) (s : SlotRecord) : Type 0 where
  Lives : (h : Handle) → IsTrue (set.contains r.live h) → h.index ≡ index
      → s ≡ occupied h.generation (map.get r.rows h) → Became r index s
  Waits : (position : ℕ) → position < length r.pending → (waiter r position).index ≡ index
      → s ≡ pending_slot (waiter r position) position → Became r index s
  Gone : ((h : Handle) → IsTrue (set.contains r.live h) → h.index ≢ index)
      → ((position : ℕ) → position < length r.pending → (waiter r position).index ≢ index)
      → s ≡ retired_slot → Became r index s

-- a list has a handle of the slot, at a place, or none
abbrev Found : List Handle → ℕ → ℕ → SlotRecord → Type 0
Found handles index first s = (k : ℕ) × (k < length handles)
    × ((get_or handles k no_handle).index ≡ index)
    × (s ≡ pending_slot (get_or handles k no_handle) (first + k))

abbrev NoneOf : List Handle → ℕ → Type 0
NoneOf handles index = (k : ℕ) → k < length handles → (get_or handles k no_handle).index ≢ index

none_more : (h : Handle) (handles : List Handle) (index : ℕ) → h.index ≢ index
    → NoneOf handles index → NoneOf (h ∷ handles) index
none_more h handles index other none zero lt = other
none_more h handles index other none (suc k) lt = none k (omega arith)

waiting_is : (handles : List Handle) (index first : ℕ)
    → Found handles index first (waiting_slot index first handles)
    ⊎ (NoneOf handles index × (waiting_slot index first handles ≡ retired_slot))
waiting_is [] index first = inr ((λ k lt. absurd (omega arith)), refl)
waiting_is (h ∷ handles) index first = elim (cases_eq h.index index) [
  | inl same ↦ let test = eq-eqb h.index index same in
      inl (0, omega arith, same, search (rules, arith))
  | inr other ↦ rw (ne_eqb h.index index other) (elim (waiting_is handles index (first + 1)) [
    | inl found ↦ inl (suc found.0, omega arith, found.2, search (rules, arith))
    | inr none ↦ inr (none_more h handles index other none.0, none.1)
  ])
]

module _ (r : Roster) (index : ℕ) where
  living_is : (handles : List Handle) → ((h : Handle) × Contains handles h × (h.index ≡ index)
      × (living_slot r index handles ≡ occupied h.generation (map.get r.rows h)))
      ⊎ (NoneOf handles index × (living_slot r index handles ≡ waiting_slot index 0 r.pending))
  living_is [] = inr ((λ k lt. absurd (omega arith)), refl)
  living_is (h ∷ handles) = elim (cases_eq h.index index) [
    | inl same ↦ inl (h, (0, omega arith, refl), same, rw (eq-eqb h.index index same) refl)
    | inr other ↦ rw (ne_eqb h.index index other) (elim (living_is handles) [
      | inl found ↦ inl
          (found.0, (suc found.1.0, omega (arith, found.1.1), found.1.2), found.2, found.3)
      | inr none ↦ inr (none_more h handles index other none.0, none.1)
    ])
  ]

  pub became : Became r index (slot r index)
  unfolding slot
  became = elim (living_is (set.items r.live)) [
    | inl found ↦ search (rules, set.contains-items r.live found.0, stands_in-from_Contains, Lives)
    | inr none ↦
        let lives_not : (h : Handle) → IsTrue (set.contains r.live h)
        → h.index ≢ index = λ h lives same.
        let has =
        Contains-from_stands_in (set.items r.live) h
        (sym (set.contains-items r.live h) ∙ lives) in
        none.0 has.0 has.1
        (rw (get_or_default (set.items r.live) has.0 no_handle h has.1, has.2) same) in
        elim (waiting_is r.pending index 0) [
          | inl found ↦ Waits found.0 found.1 found.2 (none.1 ∙ rw zero-add at found.3)
          | inr gone ↦ Gone lives_not gone.0 (none.1 ∙ gone.1)
        ]
  ]

-- ---- what the slots of a sound roster are

pub All-reverse : {X : Type 0} (P : X → Type 0) (xs : List X) → All P xs → All P (reverse xs)
All-reverse P xs all k d lt = search (rules, get_or-reverse, length-reverse)

module _ (r : Roster) (are : AreSlots r) where
  -- they are those of an allocator that nothing is reserved of
  pub slots_sound : IsSound (allocator_of r 0 0)
  slots_sound =
      let apart = AllPairs-IsPermutation AreApart apart_both r.pending (reverse r.pending)
      (IsPermutation-reverse r.pending) are.apart in
      let live_apart = λ (h : Handle) (alive : IsTrue (set.contains r.live h)).
      All-reverse (AreApart h) r.pending (are.live_apart h alive) in
      laid_out-sound (allocator_of r 0 0) (reverse r.pending) (search (rules, All-reverse))

  waits_apart : (h : Handle) (position : ℕ) → IsTrue (set.contains r.live h)
      → position < length r.pending → (waiter r position).index ≢ h.index
  waits_apart h position lives lt same = are.live_apart h lives position no_handle lt (sym same)

  -- of a living occupant
  pub slot_lives : (h : Handle) → IsTrue (set.contains r.live h)
      → slot r h.index ≡ occupied h.generation (map.get r.rows h)
  slot_lives h lives = search (rules, became, waits_apart)

  -- so no more wait than were made
  pub few : length r.pending ≤ r.made
  few =
      search
      (rules, arith, retired-rest (allocator_of r 0 0) slots_sound, top_is r 0 0, slots_sound)

  -- of a slot that waits
  pub slot_waits : (position : ℕ) → position < length r.pending
      → slot r (waiter r position).index ≡ pending_slot (waiter r position) position
  slot_waits position lt = search (rules, became, waits_apart, cases_eq, cases_lt)

  -- and of none other
  pub alive_from : (index generation : ℕ) (row : Option ℕ) → slot r index ≡ occupied generation row
      → IsTrue (set.contains r.live (handle index generation))
      × (map.get r.rows (handle index generation) ≡ row)
  alive_from index generation row is = search
      (rules, became, false≢true, occupied_is)

  pub waits_from : (index position generation : ℕ)
      → slot r index ≡ pending_slot (handle index generation) position
      → (position < length r.pending) × (waiter r position ≡ handle index generation)
  waits_from index position generation is = search (rules, became, false≢true, occupied_is)

  -- what is written of a slot fits its words
  pub small : (index : ℕ) → IsSmall (slot r index)
  small index = search (rules, became, small_occupied, few)

  -- and within the limits
  pub written : (index : ℕ) → IsWritten r.limits (slot r index).generation (slot r index).occupancy
  written index = search (rules, became, written_occupied, few)

-- ---- slots that are written alike

-- what lives in one lives in the other
module _ (r q : Roster) (is_r : AreSlots r) (is_q : AreSlots q)
    (each : (index : ℕ) → index < r.made → slot r index
    ≡ slot q index) where
  pub also_lives : (h : Handle) → IsTrue (set.contains r.live h)
      → IsTrue (set.contains q.live h) × (map.get q.rows h
      ≡ map.get r.rows h)
  also_lives h lives = alive_from q is_q h.index h.generation (map.get r.rows h)
      (rw (← each h.index (is_r.live_made h lives)) (slot_lives r is_r h lives))

-- slots that are written alike are the same
pub same_roster : (r q : Roster) → AreSlots r → AreSlots q → r.limits ≡ q.limits → r.made ≡ q.made
    → length r.pending ≡ length q.pending
    → ((index : ℕ) → index < r.made → slot r index ≡ slot q index) → r ≡ q
same_roster r q is_r is_q limits made long each =
    let there = also_lives r q is_r is_q each in
    let here = also_lives q r is_q is_r (λ index lt. sym (each index (omega arith))) in
    let alive : (h : Handle) → set.contains r.live h ≡ set.contains q.live h =
    λ h. grind (arith, there h, here h) in
    let row : (h : Handle) → map.get r.rows h ≡ map.get q.rows h = λ h. search (
      rules,
      cases_Bool (set.contains r.live h),
      there h,
      is_r.rows_of_living h,
      is_q.rows_of_living h,
      alive h,
      false≢true,
    ) in
    let live = set.same_set handle_cmp_total handle_cmp-IsAntisymmetric r.live q.live alive in
    let rows = map.same_map handle_cmp_total handle_cmp-IsAntisymmetric r.rows q.rows row in
    let pending = same_lists r.pending q.pending long (λ k d lt. search (
      rules,
      arith,
      get_or_default r.pending k d no_handle,
      waits_from q is_q (waiter r k).index k (waiter r k).generation,
      each (waiter r k).index,
      is_r.waiting_made k no_handle,
      slot_waits r is_r k,
      get_or_default q.pending k no_handle d,
    )) in
    search rules
