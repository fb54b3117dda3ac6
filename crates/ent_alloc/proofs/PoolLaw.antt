-- What requests take off the pool, whether they are served or not. It depends on their sum alone,
-- so a reply depends on the cursor alone, and can be computed later.
use Rattle.ent_alloc.proofs.Common.{rules, ◌≡◌, refl, sym, ap, ℕ, ◌+◌, ◌≤◌, ℤ, pos, negsuc, ◌-ℤ◌}
use Rattle.ent_alloc.proofs.Common.{List, [], ◌∷◌, ◌++◌, length, take, drop, sum, Ok, arith}
use Rattle.ent_alloc.proofs.Common.{common_steps, cases_lt, ints, le-leb, append-nil, take_all}
use Rattle.ent_alloc.proofs.Common.{drop_all, length-append, sum_by-cons, take-append_seam}
use Rattle.ent_alloc.proofs.Common.{drop-append_seam, Allocator, available, top, cursor, after_take}
use Rattle.ent_alloc.proofs.Common.{asked_at, pool_at, reply_from, reply_to, IsSound}
use Rattle.ent_alloc.proofs.Taken.{available-after_take, length-pool}
use Rattle.ent_alloc.proofs.Soundness.{after_take-sound}

-- the cursor tells how much was asked
pub asked_at-cursor : (s : Allocator) → asked_at (top s) (cursor s) ≡ s.asked
asked_at-cursor s = told (cursor s) refl
  where
    told : (high : ℤ) → high ≡ pos (top s) -ℤ pos s.asked → asked_at (top s) high ≡ s.asked
    told (pos high) is = omega (arith, ints)
    told (negsuc below) is = omega (arith, ints)

-- and so what is left of the pool
pub pool_at-cursor : (s : Allocator) → IsSound s → pool_at s (cursor s) ≡ s.pool
pool_at-cursor s h = search (rules, asked_at-cursor)

pub reply-cursor : (s : Allocator) (n : ℕ) → IsSound s
    → reply_from s.made (pool_at s (cursor s)) n ≡ reply_to s n
reply-cursor s n h = ap (λ pool. reply_from s.made pool n) (pool_at-cursor s h)

-- what a served request and a refused one both leave
after_take-either : {A : Type 0} (f : Allocator → A) (x : A) (s : Allocator) (n : ℕ)
    → f (record s { taken = s.taken ++ take n s.pool; pool = drop n s.pool; asked = s.asked + n })
    ≡ x
    → f (record s { aside = s.aside ++ s.pool; pool = []; asked = s.asked + n }) ≡ x
    → f (after_take s n) ≡ x
after_take-either f x s n served refused = grind (arith, common_steps)

-- a request leaves the limits, who is alive and the made slots as they are
pub limits-after_take : (s : Allocator) (n : ℕ) → (after_take s n).limits ≡ s.limits
limits-after_take s n = after_take-either (λ t. t.limits) s.limits s n refl refl

pub live-after_take : (s : Allocator) (n : ℕ) → (after_take s n).live ≡ s.live
live-after_take s n = after_take-either (λ t. t.live) s.live s n refl refl

pub made-after_take : (s : Allocator) (n : ℕ) → (after_take s n).made ≡ s.made
made-after_take s n = after_take-either (λ t. t.made) s.made s n refl refl

pub asked-after_take : (s : Allocator) (n : ℕ) → (after_take s n).asked ≡ s.asked + n
asked-after_take s n = search (rules, after_take-either)

pub top-after_take : (s : Allocator) (n : ℕ) → IsSound s → top (after_take s n) ≡ top s
top-after_take s n h = search (rules, made-after_take, available-after_take)

pub cursor-after_take : (s : Allocator) (n : ℕ) → IsSound s
    → cursor (after_take s n) ≡ cursor s -ℤ pos n
cursor-after_take s n h = search (rules, top-after_take, asked-after_take)

-- the allocator after each request in turn
abbrev pub after_takes : Allocator → List ℕ → Allocator
after_takes s [] = s
after_takes s (n ∷ requests) = after_takes (after_take s n) requests

pub after_takes-sound : (s : Allocator) (requests : List ℕ) → IsSound s
    → IsSound (after_takes s requests)
after_takes-sound s [] h = h
after_takes-sound s (n ∷ requests) h =
    after_takes-sound (after_take s n) requests (after_take-sound s n h)

pub available-after_takes : (s : Allocator) (requests : List ℕ) → IsSound s
    → available (after_takes s requests) ≡ available s
available-after_takes s [] h = refl
available-after_takes s (n ∷ requests) h = search
    (rules, available-after_takes (after_take s n) requests, after_take-sound, available-after_take)

-- what each request leaves, all leave
after_takes-leave : {A : Type 0} (f : Allocator → A)
    → ((s : Allocator) (n : ℕ) → f (after_take s n) ≡ f s) → (s : Allocator) (requests : List ℕ)
    → f (after_takes s requests) ≡ f s
after_takes-leave f each s [] = refl
after_takes-leave f each s (n ∷ requests) =
    search (rules, after_takes-leave f each (after_take s n) requests)

pub limits-after_takes : (s : Allocator) (requests : List ℕ)
    → (after_takes s requests).limits ≡ s.limits
limits-after_takes = after_takes-leave (λ t. t.limits) limits-after_take

pub live-after_takes : (s : Allocator) (requests : List ℕ) → (after_takes s requests).live ≡ s.live
live-after_takes = after_takes-leave (λ t. t.live) live-after_take

pub made-after_takes : (s : Allocator) (requests : List ℕ) → (after_takes s requests).made ≡ s.made
made-after_takes = after_takes-leave (λ t. t.made) made-after_take

pub asked-after_takes : (s : Allocator) (requests : List ℕ)
    → (after_takes s requests).asked ≡ s.asked + sum requests
asked-after_takes s [] = omega arith
asked-after_takes s (n ∷ requests) = search
    (rules, asked-after_takes (after_take s n) requests, asked-after_take, sum_by-cons)

pub top-after_takes : (s : Allocator) (requests : List ℕ) → IsSound s
    → top (after_takes s requests) ≡ top s
top-after_takes s [] h = refl
top-after_takes s (n ∷ requests) h = search
    (rules, top-after_takes (after_take s n) requests, after_take-sound, top-after_take)

pub cursor-after_takes : (s : Allocator) (requests : List ℕ) → IsSound s
    → cursor (after_takes s requests) ≡ cursor s -ℤ pos (sum requests)
cursor-after_takes s requests h = search (rules, top-after_takes, asked-after_takes, ints)

pub reply-later : (s : Allocator) (requests : List ℕ) (n : ℕ) → IsSound s
    → reply_from (after_takes s requests).made (pool_at (after_takes s requests) (cursor s)) n
    ≡ reply_to s n
reply-later s requests n h =
    search (rules, made-after_takes, top-after_takes, available-after_takes, pool_at-cursor)

pub after_take-none : (s : Allocator) → after_take s 0 ≡ s
after_take-none s = grind (arith, common_steps)

pub reply-none : (s : Allocator) → reply_to s 0 ≡ Ok []
reply-none s = search (rules, le-leb)

-- where there was enough, all that was asked for is taken
pub length-taken : (s : Allocator) → IsSound s → s.asked ≤ length (available s)
    → length s.taken ≡ s.asked
length-taken s h enough = search (rules, length-pool, length-append)

-- all lists, by two numbers: how many are taken, and how many were asked for
pub taken_is : (s : Allocator) → s.taken ≡ take (length s.taken) (available s)
taken_is s = sym (take-append_seam s.taken (s.aside ++ s.pool))

-- what was passed over stands after it
pub aside_is : (s : Allocator) → IsSound s
    → s.aside ≡ drop (length s.taken) (take s.asked (available s))
aside_is s h =
    search (
      rules,
      cases_lt,
      drop_all,
      take_all,
      drop-append_seam,
      append-nil,
      length-taken,
      take-append_seam,
    )
