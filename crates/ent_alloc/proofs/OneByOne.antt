-- Many handles that come to life at once: as if they were requested and flushed, and as if each was
-- given by a call of `alloc`.
use Rattle.ent_alloc.proofs.Common.{rules, ◌≡◌, refl, ℕ, ◌+◌, ◌-◌, ◌≤◌, length, take, drop, reverse}
use Rattle.ent_alloc.proofs.Common.{◌++◌, All, None, arith, List, length-append, length-reverse}
use Rattle.ent_alloc.proofs.Common.{take_at, drop_at, All-take, Handle, Requests, Roster, Allocator}
use Rattle.ent_alloc.proofs.Common.{fresh, after_take, after_flush, IsSound, IsLive, Entities}
use Rattle.ent_alloc.proofs.Common.{allocator_of, HasRowsOfLiving, sym, ap, subst, suc, zero, ◌<◌}
use Rattle.ent_alloc.proofs.Common.{[], ◌∷◌, Some, slice_get, inl, inr, slice_index_or, ◌||◌}
use Rattle.ent_alloc.proofs.Common.{eq_by_cmp, common_steps, cases_lt, take_all, take-take}
use Rattle.ent_alloc.proofs.Common.{drop-append-le, length-take-le, nil_from_length, drop_all}
use Rattle.ent_alloc.proofs.Common.{list_any-append, slice_get-get_or, or-false, handle_cmp}
use Rattle.ent_alloc.proofs.Common.{handle_cmp_total, handle_cmp-IsAntisymmetric, after_alloc}
use Rattle.ent_alloc.proofs.Common.{after_allocs, stands_in, idle}
use Rattle.std.specs.FinMap as maps
use Rattle.std.specs.FinSet as sets
use Rattle.ent_alloc.proofs.Soundness.{after_take-sound, after_flush-sound, after_alloc-sound}
use Rattle.ent_alloc.proofs.Replies.{not_apart, of_pool}
use Rattle.ent_alloc.proofs.Flushes.{rows-joined}
use Rattle.ent_alloc.proofs.Meaning.{IsAtRest, StandFor, closed, to_give}
use Rattle.ent_alloc.proofs.MeaningOfSteps.{lower_served, flushed_roster, flush_is, taken_is}
use Rattle.ent_alloc.proofs.MeaningOfSteps.{pool_is, reused_roster, made_roster, alloc_old_is}
use Rattle.ent_alloc.proofs.MeaningOfSteps.{alloc_fresh_is, alloc_old_front, alloc_fresh_front}
use Rattle.ent_alloc.proofs.MeaningOfSteps.{last_is}
use Rattle.ent_alloc.proofs.FreshHandles.{first_of_slot, fresh-next, fresh-none}
use Rattle.ent_alloc.proofs.HandleSets.{contains-union_list}

-- so it has no row
pub front_no_row : (e : Entities) (n : ℕ) → IsSound e.allocator → HasRowsOfLiving e
    → All (λ h. maps.get e.rows h ≡ None) (take n e.allocator.pool)
front_no_row e n sound kept k d lt =
    kept _
    (All-take (λ x. ¬ (IsLive e.allocator x)) n e.allocator.pool
    (of_pool (λ x. ¬ (IsLive e.allocator x)) e.allocator
    (λ i x below alive. search (rules, not_apart))) k d lt)

-- a list that has the fresh handles first, once its two parts are in the order of single calls
pub ordered : (news olds items handles : List Handle) (many len : ℕ) → items ≡ news ++ olds
    → many ≡ length news → handles ≡ reverse (drop many items) ++ take many items
    → len ≡ length items → take len (handles ++ drop (length handles) items) ≡ reverse olds ++ news
ordered news olds items handles many len items_are many_is handles_are len_is = search
    (rules, drop_at, take_at, length-append, length-reverse)

module _ (r : Roster) (requests : Requests) (s : Allocator) (rest : IsAtRest r requests s) (n : ℕ)
    (enough : n ≤ length r.pending + (r.limits.slots - r.made)) where
  -- how many slots go on waiting, and how many are made
  abbrev waits : ℕ
  waits = length r.pending - n

  abbrev news : ℕ
  news = n - length r.pending

  -- the roster with the request, as if it had been made
  requested : allocator_of r n n ≡ after_take s n
  requested = search (rules, lower_served r 0 0 n refl, rest.view)

  sound : IsSound (allocator_of r n n)
  sound = search (rules, requested, after_take-sound)

  -- the front of the pool, as the vectors have it
  pub front_is : reverse (drop waits r.pending) ++ fresh r.made news ≡ take n s.pool
  front_is = search (rules, taken_is, sound, pool_is)

  -- the slots that are left stand for the allocator
  pub many_given : (new : Roster) → new ≡ flushed_roster r waits news
      → StandFor new requests (after_flush (after_take s n))
  many_given new is = search (
    rules,
    arith,
    closed new (flushed_roster r waits news) requests (after_flush (after_take s n)) is,
    rest.requests_is,
    flush_is r n n,
    sound,
    requested,
    after_flush-sound,
    after_take-sound,
    rows-joined,
  )

-- ---- who is alive

both_in : (live : sets.FinSet handle_cmp) (one two : List Handle) (q : Handle)
    → sets.contains (sets.union (sets.union live (sets.from_list one)) (sets.from_list two)) q
    ≡ ((sets.contains live q || stands_in one q) || stands_in two q)
both_in live one two q = search (rules, contains-union_list)

live_none : (live : sets.FinSet handle_cmp)
    → sets.union (sets.union live (sets.from_list [])) (sets.from_list []) ≡ live
live_none live = sets.same_set handle_cmp_total handle_cmp-IsAntisymmetric _ _
    (λ q. search (rules, contains-union_list, or-false))

-- an old handle first, or last of the old ones
live_old : (live : sets.FinSet handle_cmp) (h : Handle) (news olds all : List Handle)
    → all ≡ olds ++ h ∷ []
    → sets.union (sets.union (sets.union live (sets.from_list (h ∷ []))) (sets.from_list news))
    (sets.from_list olds) ≡ sets.union (sets.union live (sets.from_list news)) (sets.from_list all)
live_old live h news olds all is =
    sets.same_set handle_cmp_total handle_cmp-IsAntisymmetric _ _
    (λ q.
    grind (
      arith,
      common_steps,
      is,
      list_any-append (eq_by_cmp handle_cmp q) olds (h ∷ []),
      both_in (sets.union live (sets.from_list (h ∷ []))) news olds q,
      contains-union_list live (h ∷ []) q,
      both_in live news all q,
    ))

live_fresh : (live : sets.FinSet handle_cmp) (h : Handle) (news all : List Handle) → all ≡ h ∷ news
    → sets.union (sets.union (sets.union live (sets.from_list (h ∷ []))) (sets.from_list news))
    (sets.from_list []) ≡ sets.union (sets.union live (sets.from_list all)) (sets.from_list [])
live_fresh live h news all is =
    sets.same_set handle_cmp_total handle_cmp-IsAntisymmetric _ _
    (λ q.
    grind (
      arith,
      common_steps,
      is,
      both_in (sets.union live (sets.from_list (h ∷ []))) news [] q,
      contains-union_list live (h ∷ []) q,
      both_in live all [] q,
    ))

-- ---- the vectors after one handle and then n

-- the roster after n handles came to life at once
abbrev flushed_by : Roster → ℕ → Roster
flushed_by r n = flushed_roster r (length r.pending - n) (n - length r.pending)

module _ (r : Roster) (n : ℕ) where
  none_flushed : flushed_roster r (length r.pending - 0) (0 - length r.pending) ≡ r
  none_flushed = search (rules, live_none, fresh-none, take_all, drop_all)

  -- the last that waits, and then so many
  old_flushed : (h : Handle) → 0 < length r.pending
      → slice_get r.pending (length r.pending - 1) ≡ Some h
      → flushed_by (reused_roster r h) n ≡ flushed_by r (suc n)
  old_flushed h some last =
      let len = length r.pending in
      let others = take (len - 1) r.pending in
      let all = last_is r h some last in
      search (
        rules,
        arith,
        length-take-le (len - 1) r.pending,
        live_old,
        drop-append-le (len - suc n) others (h ∷ []),
        all,
        take-take (len - suc n) (len - 1) r.pending,
      )

  -- the first occupant of a new slot, and then so many
  fresh_flushed : (h : Handle) → length r.pending ≡ 0
      → h ≡ record { index = r.made; generation = 1 }
      → flushed_by (made_roster r h) n ≡ flushed_by r (suc n)
  fresh_flushed h none first =
      let all_is : fresh r.made (suc n) ≡ h ∷ fresh (r.made + 1) n =
      rw first (fresh-next r.made n) in
      search (
        rules,
        none,
        nil_from_length r.pending none,
        live_fresh r.live h (fresh (r.made + 1) n) _ all_is,
      )

-- ---- any number of them

-- something to read past the end of a list
some_handle : Handle
some_handle = record { index = 0; generation = 1 }

-- so many at once leave what single calls leave
abbrev AreSame : ℕ → Roster → Type 0
AreSame n r = IsSound (allocator_of r 0 0) → n ≤ to_give r
    → allocator_of (flushed_by r n) 0 0 ≡ after_allocs (allocator_of r 0 0) (take n (idle r))

module _ (n : ℕ) (rest : (r : Roster) → AreSame n r) (r : Roster)
    (sound : IsSound (allocator_of r 0 0))
    (many : suc n ≤ to_give r) where
  abbrev s : Allocator
  s = allocator_of r 0 0

  -- one handle, and the others after it
  one_and : (h : Handle) (left : Roster) → idle r ≡ h ∷ idle left
      → allocator_of left 0 0 ≡ after_alloc s h
      → n ≤ length left.pending + (left.limits.slots - left.made)
      → flushed_by left n ≡ flushed_by r (suc n)
      → allocator_of (flushed_by r (suc n)) 0 0 ≡ after_allocs s (take (suc n) (idle r))
  one_and h left front given enough same =
      let sound_left =
      subst IsSound (sym given) (after_alloc-sound s h (idle left) sound refl front) in
      search rules

all_flushed : (n : ℕ) (r : Roster) → AreSame n r
all_flushed zero r sound many = ap (λ x. allocator_of x 0 0) (none_flushed r 0)
all_flushed (suc n) r sound many = elim (cases_lt 0 (length r.pending)) [
  | inl some ↦
      let h = slice_index_or r.pending (length r.pending - 1) some_handle in
      let last = slice_get-get_or r.pending (length r.pending - 1) some_handle (omega arith) in
      let long = length-take-le (length r.pending - 1) r.pending (omega arith) in
      one_and n (all_flushed n) r sound many h (reused_roster r h) (alloc_old_front r h some last)
      (alloc_old_is r h some last sound) (omega arith) (old_flushed r n h some last)
  | inr none ↦
      let empty : length r.pending ≡ 0 = omega arith in
      let h = first_of_slot r.made in
      search (
        rules,
        arith,
        one_and n (all_flushed n) r sound many h (made_roster r h),
        alloc_fresh_front r empty,
        nil_from_length r.pending empty,
        alloc_fresh_is r empty,
        fresh_flushed r n h empty,
      )
]

pub one_by_one : (r : Roster) (requests : Requests) (s : Allocator) → IsAtRest r requests s
    → (n : ℕ) → n ≤ to_give r → after_flush (after_take s n) ≡ after_allocs s (take n s.pool)
one_by_one r requests s rest n enough = search (
  rules,
  many_given r requests s rest n enough (flushed_by r n),
  rest.requests_is,
  all_flushed n r,
  rest.view,
  rest.sound,
  pool_is r requests s rest,
)
