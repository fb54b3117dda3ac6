-- A pool whose front comes in another order: the allocator stays sound, and the roster stands for
-- it.
use Rattle.ent_alloc.proofs.Common.{IsWithin, get_or-append_right, common_steps, IsLive, ◌≡◌, sym}
use Rattle.ent_alloc.proofs.Common.{subst, ℕ, ◌+◌, ◌-◌, ◌<◌, ◌≤◌, rules, List, [], ◌++◌, length}
use Rattle.ent_alloc.proofs.Common.{take, drop, reverse, All, arith, IsPermutation, refl, get_or}
use Rattle.ent_alloc.proofs.Common.{slice_get, Some, ◌∷◌, map, length-map, get_or-map}
use Rattle.ent_alloc.proofs.Common.{get_or_append_left, get_or-reverse, get_or_default}
use Rattle.ent_alloc.proofs.Common.{length-take-le, drop-append-le, take-append-le, length-drop}
use Rattle.ent_alloc.proofs.Common.{drop-take, length-append, length-reverse, append_assoc}
use Rattle.ent_alloc.proofs.Common.{take-append-drop, reverse-append, reverse-reverse}
use Rattle.ent_alloc.proofs.Common.{slice_get_read, get_or_from_slice_get, Limits, handle_at}
use Rattle.ent_alloc.proofs.Common.{roster_of, SlotRecord, cases_lt, All-append, All-take, All-drop}
use Rattle.ent_alloc.proofs.Common.{All-permutation, IsPermutation-append_left}
use Rattle.ent_alloc.proofs.Common.{IsPermutation-reverse, IsPermutation-trans, Handle, Roster}
use Rattle.ent_alloc.proofs.Common.{Allocator, available, top, fresh, IsSound, AreApart, idle}
use Rattle.ent_alloc.proofs.Common.{allocator_of, AreReserved, Requests, with_front, slots_of}
use Rattle.ent_alloc.proofs.Common.{AreSlotsOf, map-append, range_with_len, same_lists, get_or-take}
use Rattle.ent_alloc.proofs.Common.{get_or-drop, get_or-range_with_len, length-range_with_len}
use Rattle.ent_alloc.proofs.FreshHandles.{first_of_slot, length-fresh, All-fresh, take_joined}
use Rattle.ent_alloc.proofs.FreshHandles.{drop_joined, get_or-fresh}
use Rattle.ent_alloc.proofs.LaidOut.{old_ones, IsLaidOut, flushed-laid_out, laid_out-sound}
use Rattle.ent_alloc.proofs.ListLaws.{All-left, AllPairs-left, AllPairs-IsPermutation, drop-reverse}
use Rattle.ent_alloc.proofs.ListLaws.{take-reverse}
use Rattle.ent_alloc.proofs.Meaning.{top_is, length-idle, pending_below, rest_is, none_is, StandFor}
use Rattle.ent_alloc.proofs.Meaning.{closed}

-- ---- the allocator

module _ (s : Allocator) (hs : List Handle) (sound : IsSound s) (flushed : s.asked ≡ 0)
    (few : length hs ≤ length s.pool) (same : IsPermutation (take (length hs) s.pool) hs) where
  was : IsLaidOut s (old_ones s)
  was = flushed-laid_out s sound flushed

  abbrev n : ℕ
  n = length hs

  abbrev made : ℕ
  made = s.made + (n - top s)

  abbrev old : List Handle
  old = hs ++ drop n (old_ones s)

  all : available s ≡ s.pool
  all = search (rules, was)

  long : length s.pool ≡ top s + (s.limits.slots - s.made)
  long = search (rules, length-append, old_ones, length-fresh)

  pool_is : hs ++ drop n s.pool ≡ old ++ fresh made (s.limits.slots - made)
  pool_is = search (rules, arith, was.pool, drop_joined, was.below, append_assoc)

  moved : IsPermutation s.pool (hs ++ drop n s.pool)
  moved = subst (λ pool. IsPermutation pool (hs ++ drop n s.pool)) (take-append-drop n s.pool)
      (IsPermutation-append_left (drop n s.pool) (take n s.pool) hs same)

  -- what is so of all that may be given is so of the old handles
  each : (P : Handle → Type 0) → All P (available s) → All P old
  each P holds = All-left P old (fresh made (s.limits.slots - made))
      (rw (← pool_is) (All-permutation P s.pool (hs ++ drop n s.pool) moved (rw all at holds)))

  pub with_front-sound : IsSound (with_front s hs)
  with_front-sound =
      let P : Handle → Type 0 = λ h. h.index < made in
      let older : All P (old_ones s) = λ k d lt. omega (arith, was.below k d lt) in
      let both =
      All-append P (take n (old_ones s)) (fresh s.made (n - top s))
      (All-take P n (old_ones s) older)
      (All-fresh P s.made (n - top s) (λ k lt. omega arith)) in
      let front : All P hs = search (
        rules,
        arith,
        All-permutation P (take n s.pool) hs same,
        take_joined s.made (s.limits.slots - s.made) (old_ones s) was.below n,
        was.pool,
        long,
      ) in
      let over : made ≤ s.limits.slots = omega (arith, long, was.made) in
      let below = All-append P hs (drop n (old_ones s)) front (All-drop P n (old_ones s) older) in
      let apart = AllPairs-left AreApart old (fresh made (s.limits.slots - made))
      (rw (← pool_is)
      (AllPairs-IsPermutation AreApart (λ g h ne e. ne (sym e)) s.pool (hs ++ drop n s.pool)
      moved
      (rw all at sound.apart))) in
      let live_apart =
      λ (h : Handle) (alive : IsLive s h). each (AreApart h) (sound.live h alive).apart in
      let it = was in
      laid_out-sound (with_front s hs) old
      (search (rules, arith, pool_is, each (IsWithin s.limits)))

-- ---- the roster

-- with so many more slots, which wait after all others
abbrev pub grown : Roster → ℕ → Roster
grown r more = record r { pending = r.pending ++ fresh r.made more; made = r.made + more }

-- the slots that wait last in another order
abbrev pub turned : Roster → List Handle → Roster
turned r hs = record r { pending = take (length r.pending - length hs) r.pending ++ reverse hs }

module _ (r : Roster) (hs : List Handle) (sound : IsSound (allocator_of r 0 0))
    (few : length hs ≤ length (idle r))
    (same : IsPermutation (take (length hs) (idle r)) hs) where
  abbrev pub more : ℕ
  more = length hs - length r.pending

  abbrev wide : List Handle
  wide = r.pending ++ fresh r.made more

  below : All (λ h. h.index < r.made) (reverse r.pending)
  below = pending_below r 0 0 (omega arith) sound

  pub same_waits : IsPermutation (drop (length wide - length hs) wide) hs
  same_waits =
      let last = drop (length r.pending - length hs) r.pending in
      let front : take (length hs) (idle r) ≡ reverse last ++ fresh r.made more =
      search (rules, take_joined, below, length-idle, length-reverse, take-reverse) in
      search (
        rules,
        arith,
        length-append r.pending (fresh r.made more),
        length-fresh r.made more,
        drop-append-le (length r.pending - length hs) r.pending (fresh r.made more),
        IsPermutation-trans _ _ hs
            (IsPermutation-append_left (fresh r.made more) last (reverse last)
            (IsPermutation-reverse last))
            (rw front at same),
      )

  kept_is : take (length wide - length hs) wide ≡ take (length r.pending - length hs) r.pending
  kept_is = search (
    rules,
    arith,
    length-append r.pending (fresh r.made more),
    length-fresh r.made more,
    take-append-le (length r.pending - length hs) r.pending (fresh r.made more),
  )

  pub front_view : allocator_of (turned (grown r more) hs) 0 0 ≡ with_front (allocator_of r 0 0) hs
  front_view =
      search (
        rules,
        top_is r 0 0,
        sound,
        kept_is,
        reverse-append,
        reverse-reverse,
        append_assoc,
        drop_joined,
        below,
        length-reverse,
        drop-reverse,
      )

-- ---- where a call begins and ends that has the slots of the handles

module _ (r : Roster) (requests : Requests) (s : Allocator) (is : List ℕ)
    (reserved : AreReserved r requests.asked requests.served)
    (view : allocator_of r requests.asked requests.served ≡ s)
    (flushed : s.asked ≡ 0) (few : length is ≤ length s.pool)
    (order : AreSlotsOf (take (length is) s.pool) is) where
  abbrev hs : List Handle
  hs = order.front

  as_long : length is ≡ length hs
  as_long = search (rules, length-map)

  view_at_rest : allocator_of r 0 0 ≡ s
  view_at_rest = search (rules, rest_is)

  sound_at_rest : IsSound (allocator_of r 0 0)
  sound_at_rest = rw (view_at_rest, ← view) reserved.sound

  few_at_rest : length hs ≤ length (idle r)
  few_at_rest = search (rules, view_at_rest, as_long)

  same_at_rest : IsPermutation (take (length hs) (idle r)) hs
  same_at_rest = search (rules, view_at_rest, as_long)

  pub few_of : length is ≤ length r.pending + (r.limits.slots - r.made)
  few_of = omega (arith, as_long, length-idle r, few_at_rest)

  pub room_of : r.made + (length is - length r.pending) ≤ r.limits.slots
  room_of = omega (arith, as_long, length-idle r, sound_at_rest.made, few_at_rest)

  module _ (r' : Roster) (grown_is : r' ≡ grown r (length is - length r.pending)) where
    pub enough_of : length is ≤ length r'.pending
    enough_of = search (rules, grown_is, length-append, length-fresh)

    pub waits_of : AreSlotsOf (drop (length r'.pending - length is) r'.pending) is
    waits_of =
        search (
          rules,
          as_long,
          grown_is,
          same_waits,
          sound_at_rest,
          few_at_rest,
          same_at_rest,
          order.slots,
        )

    front_view_in : allocator_of (turned r' hs) 0 0 ≡ with_front s hs
    front_view_in = search (rules, grown_is, as_long, front_view, view_at_rest)

    pub stands_of : (r'' : Roster)
        → ((slots : AreSlotsOf (drop (length r'.pending - length is) r'.pending) is)
        → r''
        ≡ record r'
        { pending = take (length r'.pending - length is) r'.pending ++ reverse slots.front })
        → StandFor r'' requests (with_front s order.front)
    unfolding waits_of
    stands_of r'' each =
        let is : r'' ≡ turned r' hs = rw (← as_long) (each waits_of) in
        search (
          rules,
          closed,
          none_is,
          front_view_in,
          with_front-sound,
          sound_at_rest,
          few_at_rest,
          same_at_rest,
          view_at_rest,
        )

-- ---- the slot at a position

module _ (r : Roster) (position : ℕ) where
  at_position : (x : ℕ) (d : Handle) → position < length (idle r)
      → (get_or (idle r) position d).index ≡ x → slice_get (slots_of (idle r)) position ≡ Some x
  at_position x d below is = slice_get_read (slots_of (idle r)) _ position x refl (omega
      (arith, length-map (idle r) (λ (h : Handle). h.index))) (search
      (rules, get_or_default, get_or-map, length-map))

  slot_is_fresh : length r.pending ≤ position → position < length (idle r)
      → slice_get (slots_of (idle r)) position ≡ Some (r.made + (position - length r.pending))
  slot_is_fresh late below = search (
    rules,
    arith,
    length-reverse r.pending,
    length-idle r,
    at_position (r.made + (position - length r.pending)) (first_of_slot 0),
    get_or-append_right (reverse r.pending) (fresh r.made (r.limits.slots - r.made))
        (length r.pending) position (first_of_slot 0),
    get_or-fresh r.made (r.limits.slots - r.made) (position - length r.pending) (first_of_slot 0),
  )

-- a run of fresh ones
pub fresh_part : (r : Roster) (from count : ℕ) → (0 < count → length r.pending ≤ from)
    → from + count ≤ length (idle r) → take count (drop from (slots_of (idle r)))
    ≡ range_with_len (r.made + (from - length r.pending)) count
fresh_part r from count past within =
    let all = length-map (idle r) (λ (h : Handle). h.index) in
    same_lists _ _
    (search (rules, arith, all, length-take-le, length-drop, length-range_with_len))
    (λ k d lt. search (
      rules,
      arith,
      all,
      length-take-le,
      length-drop,
      past,
      get_or-take,
      get_or-drop,
      get_or-range_with_len,
      get_or_from_slice_get,
      slot_is_fresh r (from + k),
    ))

-- ---- those that wait, as they are listed

module _ (records : List SlotRecord) where
  slots_waiting : (pending : List ℕ)
      → slots_of (reverse (map (handle_at records) pending)) ≡ reverse pending
  slots_waiting [] = refl
  slots_waiting (i ∷ is) = grind (arith, common_steps, reverse-append, map-append, slots_waiting is)

-- some of a list from its other end
pub turned_part : (xs ys : List ℕ) (from n : ℕ) → n ≤ length xs - from
    → reverse (take n (drop (length xs - from - n) xs)) ≡ take n (drop from (reverse xs ++ ys))
turned_part xs ys from n few = search (
  rules,
  arith,
  cases_lt,
  length-take-le,
  drop-append-le,
  take-append-le,
  length-reverse,
  length-drop,
  drop-reverse,
  take-reverse,
  drop-take,
)

pub waiting_long : (limits : Limits) (records : List SlotRecord) (pending : List ℕ) (r : Roster)
    → roster_of limits records pending ≡ r → length r.pending ≡ length pending
waiting_long limits records pending r view = search (rules, length-map)

pub waiting_part : (limits : Limits) (records : List SlotRecord) (pending : List ℕ) (r : Roster)
    (from n : ℕ) → roster_of limits records pending ≡ r → n ≤ length r.pending - from
    → reverse (take n (drop (length pending - from - n) pending))
    ≡ take n (drop from (slots_of (idle r)))
waiting_part limits records pending r from n view few = grind
    (arith, common_steps, as_long, waiting_long, map-append, slots_waiting, turned_part)
