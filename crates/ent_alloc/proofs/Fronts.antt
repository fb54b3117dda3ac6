-- The slots that wait last in another order: the vectors stay linked, and the roster has the
-- handles in that order.
use Rattle.ent_alloc.proofs.Common.{rules, ◌≡◌, ◌≢◌, ◌⊎◌, inl, inr, ℕ, zero, suc, ◌+◌, ◌-◌, ◌<◌}
use Rattle.ent_alloc.proofs.Common.{◌≤◌, refl, sym, ◌∙◌, List, [], ◌∷◌, ◌++◌, length, get_or, set}
use Rattle.ent_alloc.proofs.Common.{take, drop, map, reverse, All, AllPairs, IsPermutation, arith}
use Rattle.ent_alloc.proofs.Common.{true, is_pending_from}
use Rattle.ent_alloc.proofs.Common.{false, None, common_steps, cases_lt, cases_eq, length-set}
use Rattle.ent_alloc.proofs.Common.{get_or-set_same, get_or-set_other, get_or-map, length-map}
use Rattle.ent_alloc.proofs.Common.{length-drop, get_or-drop, length-take-le, get_or-reverse}
use Rattle.ent_alloc.proofs.Common.{All-tail, All-cons, All-permutation, Handle, Limits, Roster}
use Rattle.ent_alloc.proofs.Common.{AreApart, SlotRecord, Pending, is_alive, row_of, record_at}
use Rattle.ent_alloc.proofs.Common.{no_slot, handle_at, occupants, rows_from, roster_of, AreLinked}
use Rattle.ent_alloc.proofs.Common.{waiting_at, placed, moved, slots_of, AreSlotsOf, All-map}
use Rattle.ent_alloc.proofs.Common.{IsPermutation-sym, append-nil, append_assoc, drop-set, drop_all}
use Rattle.ent_alloc.proofs.Common.{get_or-append_right, map-append, reverse-append}
use Rattle.ent_alloc.proofs.Common.{take-append-drop, take-map, take-set-le, map-map, map_fixed}
use Rattle.ent_alloc.proofs.ListLaws.{AllPairs-head, AllPairs-tail, AllPairs-IsPermutation}
use Rattle.ent_alloc.proofs.Occupants.{rows_from-set}

-- ---- the positions

pub length-placed : (pending : List ℕ) (top : ℕ) (is : List ℕ)
    → length (placed pending top is) ≡ length pending
length-placed pending top [] = refl
length-placed pending top (i ∷ is) = length-placed (set pending (top - 1) i) (top - 1) is
    ∙ length-set pending (top - 1) i

-- they come last first below the top
pub placed_is : (pending : List ℕ) (top : ℕ) (is : List ℕ) → length is ≤ top → top ≤ length pending
    → placed pending top is ≡ take (top - length is) pending ++ (reverse is ++ drop top pending)
placed_is pending top [] few within = search (rules, take-append-drop)
placed_is pending top (i ∷ is) few within =
    placed_is (set pending (top - 1) i) (top - 1) is (omega arith)
    (omega (arith, length-set {A = ℕ}))
    ∙ grind (arith, common_steps, take-set-le, drop-set, append_assoc, reverse-append)

-- ---- the records

pub length-moved : (records : List SlotRecord) (top : ℕ) (is : List ℕ)
    → length (moved records top is) ≡ length records
length-moved records top [] = refl
length-moved records top (i ∷ is) =
    let w = waiting_at (record_at records i).generation (top - 1) in
    length-moved (set records i w) (top - 1) is ∙ length-set records i w

pub moved-other : (records : List SlotRecord) (top at : ℕ) (hs : List Handle)
    → All (λ h. h.index ≢ at) hs → record_at (moved records top (slots_of hs)) at
    ≡ record_at records at
moved-other records top at [] others = refl
moved-other records top at (h ∷ hs) others =
    let w = waiting_at (record_at records h.index).generation (top - 1) in
    search (
      rules,
      arith,
      moved-other (set records h.index w) (top - 1) at hs,
      All-tail (λ h. h.index ≢ at) h hs others,
      get_or-set_other records h.index at w no_slot,
      others 0 h,
    )

pub generation-moved : (records : List SlotRecord) (top at : ℕ) (hs : List Handle)
    → All (λ h. h.index < length records) hs
    → (record_at (moved records top (slots_of hs)) at).generation
    ≡ (record_at records at).generation
generation-moved records top at [] made = refl
generation-moved records top at (h ∷ hs) made =
    let w = waiting_at (record_at records h.index).generation (top - 1) in
    grind (
      arith,
      common_steps,
      generation-moved (set records h.index w) (top - 1) at hs,
      made 0 h,
      All-tail (λ h. h.index < length records) h hs made,
    )

pub moved-at : (records : List SlotRecord) (top k : ℕ) (hs : List Handle) (d : Handle)
    → All (λ h. h.index < length records) hs → AllPairs AreApart hs → k < length hs
    → (record_at (moved records top (slots_of hs)) (get_or hs k d).index).occupancy
    ≡ Pending (top - 1 - k)
moved-at records top k [] d made apart below = absurd (omega arith)
moved-at records top k (h ∷ hs) d made apart below =
    let w = waiting_at (record_at records h.index).generation (top - 1) in
    search (
      rules,
      arith,
      cases_eq k 0,
      moved-other (set records h.index w) (top - 1) h.index hs,
      get_or-set_same records h.index w no_slot,
      made 0 h,
      AllPairs-head AreApart h hs apart,
      moved-at (set records h.index w) (top - 1) (k - 1) hs d,
      length-set,
      All-tail (λ h. h.index < length records) h hs made,
      AllPairs-tail AreApart h hs apart,
    )

-- ---- who lives

-- the record has no occupant
pub record IsVacant (r : SlotRecord) : Type 0 where
  pub dead : is_alive r.occupancy ≡ false
  pub bare : row_of r.occupancy ≡ None

occupants-set : (from : ℕ) (records : List SlotRecord) (index : ℕ) (r : SlotRecord)
    → is_alive r.occupancy ≡ false → is_alive (record_at records index).occupancy ≡ false
    → occupants from (set records index r) ≡ occupants from records
occupants-set from [] index r new old = refl
occupants-set from (x ∷ records) zero r new old = search (rules)
occupants-set from (x ∷ records) (suc index) r new old =
    search (rules, occupants-set (from + 1) records index)

-- what does not change where one vacant slot waits does not change where many do
kept-moved : {T : Type 0} (f : List SlotRecord → T)
    → ((records : List SlotRecord) (index : ℕ) (w : SlotRecord) → IsVacant w
    → IsVacant (record_at records index) → f (set records index w) ≡ f records)
    → (records : List SlotRecord) (top : ℕ) (hs : List Handle)
    → All (λ h. IsVacant (record_at records h.index)) hs
    → f (moved records top (slots_of hs)) ≡ f records
kept-moved f keeps records top [] vacant = refl
kept-moved f keeps records top (h ∷ hs) vacant =
    let w = waiting_at (record_at records h.index).generation (top - 1) in
    kept-moved f keeps (set records h.index w) (top - 1) hs
    (λ k d lt. grind (arith, common_steps, vacant (suc k) d))
    ∙ keeps records h.index w (record { dead = refl; bare = refl }) (vacant 0 h (omega arith))

-- ---- lists of handles

pub map-reverse : {X Y : Type 0} (f : X → Y) (xs : List X) → map f (reverse xs) ≡ reverse (map f xs)
map-reverse f [] = refl
map-reverse f (x ∷ xs) = grind (arith, common_steps, reverse-append, map-append, map-reverse f xs)

-- ---- links

-- one of them has the slot, or none
among : (index : ℕ) (hs : List Handle)
    → ((k : ℕ) × (k < length hs) × ((d : Handle) → (get_or hs k d).index ≡ index))
    ⊎ All (λ h. h.index ≢ index) hs
among index [] = inr (λ k d lt. absurd (omega arith))
among index (h ∷ hs) = elim (cases_eq h.index index) [
  | inl same ↦ inl (0, omega arith, λ d. same)
  | inr other ↦ elim (among index hs) [
    | inl found ↦ inl (suc found.0, omega (arith, found.1), found.2)
    | inr none ↦ inr (All-cons (λ h. h.index ≢ index) h hs other none)
  ]
]

-- the slots that wait last, of a roster that the vectors stand for, in the order of these
module _ (limits : Limits) (records : List SlotRecord) (pending : List ℕ) (retired : ℕ)
    (is : List ℕ) (r : Roster)
    (linked : AreLinked limits records pending retired) (view : roster_of limits records pending ≡ r)
    (few : length is ≤ length r.pending)
    (slots : AreSlotsOf (drop (length r.pending - length is) r.pending) is) where
  abbrev hs : List Handle
  hs = slots.front

  long_view : length r.pending ≡ length pending
  long_view = search (rules, length-map)

  as_many : length is ≡ length hs
  as_many = search (rules, length-map)

  few_in : length hs ≤ length pending
  few_in = omega (arith, long_view, as_many)

  abbrev from : ℕ
  from = length pending - length hs

  abbrev waited : List Handle
  waited = drop from (map (handle_at records) pending)

  waited_at : (k : ℕ) (d : Handle) → k < length waited → get_or waited k d
      ≡ handle_at records (get_or pending (from + k) 0)
  waited_at k d lt = search (rules, length-drop, length-map, get_or-drop, get_or-map)

  same : IsPermutation waited hs
  same = search (rules, long_view, as_many)

  long_waited : length waited ≡ length hs
  long_waited = search (rules, length-drop, length-map)

  -- what is so of those that waited last is so of these
  each : (P : Handle → Type 0) → ((position : ℕ) → from ≤ position → position < length pending
      → P (handle_at records (get_or pending position 0))) → All P hs
  each P waits = All-permutation P waited hs same (λ k d lt. search
      (rules, arith, waited_at, long_waited, few_in, waits))

  made_slots : All (λ h. h.index < length records) hs
  made_slots =
      each (λ h. h.index < length records) (λ position late within. linked.made position within)

  all_vacant : All (λ h. IsVacant (record_at records h.index)) hs
  all_vacant = search (rules, each, linked.forward)

  apart : AllPairs AreApart hs
  apart =
      AllPairs-IsPermutation AreApart (λ g h ne e. ne (sym e)) waited hs same
      (λ i j d lt within same_slot. search (rules, long_waited, waited_at, common_steps))

  abbrev after : List SlotRecord
  after = moved records (length pending) (slots_of hs)

  abbrev order : List ℕ
  order = placed pending (length pending) (slots_of hs)

  order_long : length order ≡ length pending
  order_long = length-placed pending (length pending) (slots_of hs)

  order_is : order ≡ take from pending ++ reverse (slots_of hs)
  order_is = search (
    rules,
    arith,
    few_in,
    placed_is pending (length pending) (slots_of hs),
    length-map hs (λ (h : Handle). h.index),
    drop_all (length pending) pending,
    append-nil,
  )

  after_long : length after ≡ length records
  after_long = length-moved records (length pending) (slots_of hs)

  generation_after : (index : ℕ)
      → (record_at after index).generation ≡ (record_at records index).generation
  generation_after index = search (rules, generation-moved, made_slots)

  -- the early positions have the slots that they had, and the late ones those of the handles
  early_is : (position : ℕ) → position < from → get_or order position 0 ≡ get_or pending position 0
  early_is position early = rw order_is (grind (arith, common_steps))

  late_is : (position : ℕ) (d : Handle) → from ≤ position → position < length pending
      → get_or order position 0 ≡ (get_or hs (length pending - 1 - position) d).index
  late_is position d late within =
      let k = length pending - 1 - position in
      search (
        rules,
        arith,
        few_in,
        length-map hs (λ (h : Handle). h.index),
        order_is,
        get_or-append_right (take from pending) (reverse (slots_of hs)) from position 0,
        length-take-le from pending,
        get_or-reverse (slots_of hs) (position - from) 0,
        get_or-map (λ (h : Handle). h.index) hs k d 0,
      )

  made_after : (position : ℕ) → position < length order → get_or order position 0 < length after
  made_after position within = search (
    rules,
    arith,
    cases_lt position from,
    early_is position,
    late_is position (handle_at records 0),
    order_long,
    after_long,
    linked.made position,
    made_slots (length pending - 1 - position) (handle_at records 0),
  )

  forward_after : (position : ℕ) → position < length order
      → (record_at after (get_or order position 0)).occupancy ≡ Pending position
  forward_after position within =
      let d = handle_at records 0 in
      let k = length pending - 1 - position in
      search (
        rules,
        arith,
        cases_lt position from,
        early_is position,
        late_is position d,
        order_long,
        moved-other records (length pending) (get_or pending position 0) hs,
        each (λ h. h.index ≢ get_or pending position 0),
        linked.forward position,
        moved-at records (length pending) k hs d made_slots apart,
      )

  back_after : (index position : ℕ) → index < length after
      → (record_at after index).occupancy ≡ Pending position
      → (position < length order) × (get_or order position 0 ≡ index)
  back_after index position made is =
      let d = handle_at records 0 in
      let more = after_long in
      let long = order_long in
      elim (among index hs) [
        | inl found ↦
            let there = moved-at records (length pending) found.0 hs d made_slots apart found.1 in
            let slot = found.2 d in
            let at : position ≡ length pending - 1 - found.0 = grind (arith, common_steps) in
            search (rules, arith, few_in, late_is position d)
        | inr none ↦
            let was = rw (moved-other records (length pending) index hs none) at is in
            let still =
            All-permutation (λ h. h.index ≢ index) hs waited (IsPermutation-sym waited hs same)
            none
            (position - from) d in
            search (
              rules,
              arith,
              linked.listed index position,
              linked.back index position,
              cases_lt position from,
              early_is position,
              waited_at (position - from) d,
              long_waited,
            )
      ]

  same_living : occupants 0 after ≡ occupants 0 records
  same_living =
      kept-moved (occupants 0) (search (rules, occupants-set)) records (length pending) hs
      all_vacant

  same_rows : rows_from 0 after ≡ rows_from 0 records
  same_rows =
      kept-moved (rows_from 0) (search (rules, rows_from-set)) records (length pending) hs
      all_vacant

  pub links_in : AreLinked limits (moved records (length pending) is)
      (placed pending (length pending) is) retired
  links_in =
      let listed =
      λ (index position : ℕ) (lt : index < length after) (is : (record_at after index).occupancy
      ≡ Pending position). (back_after index position lt is).0 in
      let back =
      λ (index position : ℕ) (lt : index < length after) (is : (record_at after index).occupancy
      ≡ Pending position). (back_after index position lt is).1 in
      search (
        rules,
        slots.slots,
        order_long,
        after_long,
        same_living,
        generation_after,
        made_after,
        forward_after,
      )

  -- they are those that waited, and then these, the last first
  waits_after : map (handle_at after) order
      ≡ take from (map (handle_at records) pending) ++ reverse hs
  waits_after =
      let named : map (handle_at records) (slots_of hs) ≡ hs =
      simp map-map (map_fixed (λ h. handle_at records h.index)
      hs (each (λ h. handle_at records h.index ≡ h) (λ position late within. refl))) in
      search (rules, generation_after, order_is, map-append, take-map, map-reverse)

  pub roster_in : roster_of limits (moved records (length pending) is)
      (placed pending (length pending) is)
      ≡ record r { pending = take (length r.pending - length is) r.pending ++ reverse hs }
  roster_in =
      search
      (rules, slots.slots, waits_after, same_living, same_rows, after_long, long_view, as_many)

  pub waiting_in : All (λ i. is_pending_from (record_at records i).occupancy 0 ≡ true) is
  waiting_in =
      let waits =
      each (λ h. is_pending_from (record_at records h.index).occupancy 0 ≡ true)
      (λ position late within. search (rules, linked.forward position within)) in
      rw slots.slots (All-map (λ i. is_pending_from (record_at records i).occupancy 0 ≡ true)
      (λ (h : Handle). h.index) hs waits)

  pub slots_in : All (λ i. i < length records) is
  slots_in =
      rw slots.slots (All-map (λ i. i < length records) (λ (h : Handle). h.index) hs made_slots)
