-- What a request is given, by the pool that it found, and its reply by what the vectors hold.
use Rattle.ent_alloc.proofs.Common.{common_steps, ◌≡◌, ◌∙◌, ℕ, ◌<◌, ◌≤◌, ℤ, pos, ◌-ℤ◌, rules, List}
use Rattle.ent_alloc.proofs.Common.{[], ◌∷◌, length, take, Result, Ok, Err, arith, slice_get, Some}
use Rattle.ent_alloc.proofs.Common.{◌⊎◌, All, IsErrAnd, IsErrOf, IfErr, nat_tests, length-take-le}
use Rattle.ent_alloc.proofs.Common.{nil_from_length, All-take, get_or_from_slice_get}
use Rattle.ent_alloc.proofs.Common.{slice_get_within, length_permutation, Handle, Space, Span}
use Rattle.ent_alloc.proofs.Common.{Refused, ReserveError, Allocator, after_take, cursor, listed}
use Rattle.ent_alloc.proofs.Common.{reply_from, reply_to, pool_at, listed_alone, IsSound, IsWithin}
use Rattle.ent_alloc.proofs.Common.{◌+◌, ◌-◌, ◌≤ℤ◌, drop, sym, ap, ints, Roster, top, idle}
use Rattle.ent_alloc.proofs.Common.{allocator_of, beneath, AreReserved, reserved_handles, ◌++◌}
use Rattle.ent_alloc.proofs.Common.{reverse, filter, le-leb, lt-leb, cond-true, cond-false}
use Rattle.ent_alloc.proofs.Common.{append-nil, length-reverse, length-drop, drop-take}
use Rattle.ent_alloc.proofs.Common.{reverse-reverse, All-drop, filter-append, fresh, is_old}
use Rattle.ent_alloc.proofs.Common.{is_fresh}
use Rattle.ent_alloc.proofs.PoolLaw.{reply-later}
use Rattle.ent_alloc.proofs.Replies.{served_from, reply-IsPermutation, of_pool, of_reply}
use Rattle.ent_alloc.proofs.FreshHandles.{take-fresh, drop_joined, all_old_are_old, no_fresh_is_old}
use Rattle.ent_alloc.proofs.FreshHandles.{no_old_is_fresh, all_fresh_are_fresh}
use Rattle.ent_alloc.proofs.ListLaws.{take-append, drop-reverse, take-reverse}
use Rattle.ent_alloc.proofs.Listing.{reserved_handles-pending, reserved_handles-fresh}
use Rattle.ent_alloc.proofs.Listing.{reserved_handles-none}
use Rattle.ent_alloc.proofs.Meaning.{to_give, top_view, asked_at-is, pool_at_is, pending_below}
use Rattle.ent_alloc.proofs.Meaning.{length_left}
use Rattle.ent_alloc.specs.declared.refused.Refused.TheVariants as refused
use Rattle.ent_alloc.specs.declared.reserve_error.ReserveError.TheVariants as failed

-- the reply that is looked up after the step is the reply to the request
pub told : (s : Allocator) (t : Allocator) (n : ℕ) (span : Span) → IsSound s
    → span ≡ record { high = cursor s; low = cursor s -ℤ pos n } → t ≡ after_take s n
    → (r : Result (List Handle) Space)
    → ((m : ℕ) → span.low ≡ span.high -ℤ pos m → r ≡ reply_from t.made (pool_at t span.high) m)
    → r ≡ reply_to s n
told s t n span sound is step r tells = search (rules, tells n, reply-later s (n ∷ []) n sound)

-- what is left is within the limits
pub front_within : (s : Allocator) (n : ℕ) → IsSound s → All (IsWithin s.limits) (take n s.pool)
front_within s n sound = search (rules, All-take, of_pool)

pub first_within : (s : Allocator) (h : Handle) → IsSound s → slice_get s.pool 0 ≡ Some h
    → IsWithin s.limits h
first_within s h sound first =
    search (
      rules,
      of_pool (IsWithin s.limits) s sound.within 0 h,
      slice_get_within s.pool 0 h,
      get_or_from_slice_get s.pool 0 h h first,
    )

-- what a request is given that is served
pub record IsListed (s : Allocator) (n : ℕ) (given : List Handle) : Type 0 where
  pub enough : n ≤ length s.pool
  pub lists : given ≡ listed s.made (take n s.pool)
  pub long : length given ≡ n
  pub within : All (IsWithin s.limits) given

pub of_served : (s : Allocator) (n : ℕ) (given : List Handle) → IsSound s → reply_to s n ≡ Ok given
    → IsListed s n given
of_served s n given sound is =
    search (
      rules,
      arith,
      served_from s n given is,
      length_permutation (take n s.pool) given,
      reply-IsPermutation s n given is,
      length-take-le n s.pool,
      of_reply,
      of_pool,
    )

-- and one that is refused
pub record IsShort (s : Allocator) (n : ℕ) (space : Space) : Type 0 where
  pub short : length s.pool < n
  pub wanted : space.wanted ≡ n
  pub left : space.left ≡ length s.pool

pub of_refused : (s : Allocator) (n : ℕ) (space : Space) → reply_to s n ≡ Err space
    → IsShort s n space
of_refused s n space is = search (rules, common_steps)

-- ---- one handle

-- the reply that is looked up after the step is the reply to the request
pub told_one : (s : Allocator) (t : Allocator) (high : ℤ) → IsSound s → high ≡ cursor s
    → t ≡ after_take s 1 → (r : Result Handle Space)
    → listed_alone r ≡ reply_from t.made (pool_at t high) 1 → listed_alone r ≡ reply_to s 1
told_one s t high sound found step r is = is ∙ rw (found, step) (reply-later s (1 ∷ []) 1 sound)

-- the handle that one is given
pub record IsFront (s : Allocator) (h : Handle) : Type 0 where
  pub front : slice_get s.pool 0 ≡ Some h
  pub reply : reply_to s 1 ≡ Ok (h ∷ [])
  pub within : IsWithin s.limits h
  pub some : s.pool ≡ [] → ⊥

first : (made : ℕ) (pool : List Handle) (h : Handle) → 1 ≤ length pool
    → h ∷ [] ≡ listed made (take 1 pool) → slice_get pool 0 ≡ Some h
first made [] h some is = absurd (omega arith)
first made (x ∷ pool) h some is = grind (arith, nat_tests, common_steps)

pub of_front : (s : Allocator) (h : Handle) → IsSound s → reply_to s 1 ≡ Ok (h ∷ []) → IsFront s h
of_front s h sound is =
    let from = served_from s 1 (h ∷ []) is in
    let front = first s.made s.pool h from.0 from.1 in
    grind (
      arith,
      common_steps,
      of_reply s 1 (h ∷ []) is (IsWithin s.limits)
          (of_pool (IsWithin s.limits) s sound.within) 0 h,
    )

pub none_left : (s : Allocator) (n : ℕ) (space : Space) → n ≤ 1 → IsShort s n space → s.pool ≡ []
none_left s n space one short = search (rules, nil_from_length)

-- ---- a refusal

-- it is one of the three that a call has
pub space_of_three : {A : Type 0} (r : Result A ReserveError) (wanted left n pool quota : ℕ)
    → IsErrAnd r (λ why. why ≡ failed.Space wanted left) → wanted ≡ n → left ≡ pool
    → IfErr r
    (λ why. (why ≡ failed.Memory) ⊎ ((why ≡ failed.Space n pool) ⊎ (why ≡ failed.Quota quota)))
space_of_three (Ok x) wanted left n pool quota is wanted_is left_is = tt
space_of_three (Err why) wanted left n pool quota is wanted_is left_is = search rules

pub space_is : {A : Type 0} (r : Result A Refused) (wanted left n pool : ℕ)
    → IsErrAnd r (λ why. why ≡ refused.Space wanted left) → wanted ≡ n → left ≡ pool
    → IsErrOf r (refused.Space n pool)
space_is (Ok x) wanted left n pool is wanted_is left_is = absurd is
space_is (Err why) wanted left n pool is wanted_is left_is = search rules

-- ---- what a reply lists of the vectors

-- the end of a front
middle : (total asked n : ℕ) (hs : List Handle) → drop (total - asked - n) (take (total - asked) hs)
    ≡ take (total - asked - (total - (asked + n))) (drop (total - (asked + n)) hs)
middle total asked n hs =
    let front =
    total - asked in search (rules, drop-take (front - n) (front - (front - n)) hs, front)

-- what a request for n handles owns after so many were asked for
abbrev pub owned : Roster → ℕ → ℕ → List Handle
owned r asked n = reserved_handles r (length r.pending - (asked + n)) (length r.pending - asked)
    (r.made + (asked - length r.pending)) (r.made + (asked + n - length r.pending))

-- a served reply lists that
module _ (r : Roster) (asked n : ℕ) (below : All (λ h. h.index < r.made) (reverse r.pending))
    (enough : asked + n ≤ to_give r) where
  listed_is : listed r.made (take n (drop asked (idle r))) ≡ owned r asked n
  listed_is =
      let front = length r.pending - asked in
      let old = drop asked (reverse r.pending) in
      let at = r.made + (asked - length r.pending) in
      let room = r.limits.slots - r.made - (asked - length r.pending) in
      let old_is : old ≡ reverse (take front r.pending) = drop-reverse asked r.pending in
      let long : length old ≡ front = search (rules, length-drop, length-reverse) in
      let left : drop asked (idle r) ≡ old ++ fresh at room =
      search (rules, drop_joined, below, length-reverse) in
      let few : take n (drop asked (idle r)) ≡ take n old ++ fresh at (n - front) = search
      (rules, left, take-append, long, take-fresh) in
      let olds : All (λ h. h.index < r.made) (take n old) = search (rules, All-take, All-drop) in
      let old_part : filter (is_old r.made) (take n (drop asked (idle r)))
      ≡ take n old =
      search (rules, few, filter-append, all_old_are_old, no_fresh_is_old, append-nil) in
      let fresh_part : filter (is_fresh r.made) (take n (drop asked (idle r)))
      ≡ fresh at (n - front) =
      search (rules, few, filter-append, no_old_is_fresh, all_fresh_are_fresh) in
      search (rules, take-reverse, reverse-reverse, length-take-le, middle)

  pub reply_served : Ok (owned r asked n) ≡ reply_from r.made (drop asked (idle r)) n
  reply_served = search (rules, le-leb, length_left, listed_is, cond-true)

pub reply_refused : (r : Roster) (asked n : ℕ) → 0 < n → to_give r < asked + n
    → Err (record { wanted = n; left = to_give r - asked })
    ≡ reply_from r.made (drop asked (idle r)) n
reply_refused r asked n some past = search (rules, length_left, lt-leb, cond-false)

pub reply_none : (r : Roster) (asked n : ℕ) → n ≡ 0
    → Ok [] ≡ reply_from r.made (drop asked (idle r)) n
reply_none r asked n none = grind (arith, common_steps)

-- ---- below a position

-- a position that is at most the top, in the numbers of the vectors
pub record IsBelowTop (r : Roster) (high : ℤ) : Type 0 where
  pub within : high ≤ℤ pos (length r.pending)
  pub distance : pos (beneath r high) ≡ pos (length r.pending) -ℤ high

pub below_top : (r : Roster) (asked given : ℕ) (s : Allocator) (high : ℤ)
    → AreReserved r asked given → allocator_of r asked given ≡ s → high ≤ℤ pos (top s)
    → IsBelowTop r high
below_top r asked given s high reserved view passed = search (rules, top_view, ints, asked_at-is)

-- what a request for n handles owns that is served, in the numbers of the vectors
pub record IsServed (r : Roster) (high : ℤ) (n position end index index_end : ℕ) : Type 0 where
  pub enough : beneath r high + n ≤ to_give r
  pub position_is : position ≡ length r.pending - (beneath r high + n)
  pub end_is : end ≡ length r.pending - beneath r high
  pub index_is : index ≡ r.made + (beneath r high - length r.pending)
  pub index_end_is : index_end ≡ r.made + (beneath r high + n - length r.pending)

module _ (r : Roster) (asked given : ℕ) (high : ℤ) (s : Allocator)
    (reserved : AreReserved r asked given)
    (view : allocator_of r asked given ≡ s) where
  -- the reply in the words of what the vectors stand for
  pub replied : (n : ℕ) → reply_from r.made (drop (beneath r high) (idle r)) n
      ≡ reply_from s.made (pool_at s high) n
  replied n = search (rules, pool_at_is)

  pub several : (n position end index index_end : ℕ)
      → IsServed r high n position end index index_end
      → Ok (reserved_handles r position end index index_end) ≡ reply_from s.made (pool_at s high) n
  several n position end index index_end served =
      search (rules, reply_served, pending_below, replied)

  pub left_is : length (pool_at s high) ≡ to_give r - beneath r high
  left_is = search (rules, pool_at_is, length_left)

  pub short_of : (n wanted left : ℕ) → 0 < n → to_give r < beneath r high + n → wanted ≡ n
      → left ≡ to_give r - beneath r high → Err (record { wanted = wanted; left = left })
      ≡ reply_from s.made (pool_at s high) n
  short_of n wanted left some past wanted_is left_is = search
      (rules, reply_refused r (beneath r high) n some past, replied n)

  -- what one handle's reply lists
  listed_one : (h : Handle) → beneath r high + 1 ≤ to_give r → owned r (beneath r high) 1 ≡ h ∷ []
      → Ok (h ∷ []) ≡ reply_from s.made (pool_at s high) 1
  listed_one h enough lists = ap Ok (sym lists) ∙ several 1 _ _ _ _ (search rules)

  -- above 0 it is the pending handle there
  pub one_pending : (h : Handle) (position : ℕ) → high ≡ pos (position + 1)
      → high ≤ℤ pos (length r.pending) → slice_get r.pending position ≡ Some h
      → Ok (h ∷ []) ≡ reply_from s.made (pool_at s high) 1
  one_pending h position is within waits = search
      (rules, asked_at-is, ints, listed_one, reserved_handles-pending, reserved_handles-none)

  -- from 0 on it is the first occupant of a new slot
  pub one_fresh : (index : ℕ) → high ≤ℤ pos (length r.pending) → pos index ≡ pos r.made -ℤ high
      → r.made ≤ index
      → index < r.limits.slots → Ok (record { index = index; generation = 1 } ∷ [])
      ≡ reply_from s.made (pool_at s high) 1
  one_fresh index within is first below = search
      (rules, asked_at-is, ints, listed_one, reserved_handles-fresh, reserved_handles-none)

  -- past the last slot there is none
  pub one_refused : (index : ℕ) → high ≤ℤ pos (length r.pending) → pos index ≡ pos r.made -ℤ high
      → r.limits.slots ≤ index → r.made ≤ r.limits.slots → Err (record { wanted = 1; left = 0 })
      ≡ reply_from s.made (pool_at s high) 1
  one_refused index within is past few =
      search (rules, arith, ints, asked_at-is (length r.pending) high within, short_of 1 1 0)
