-- Calls that lead from the top down to the cursor are a legal history, and two numbers tell the
-- allocator after it.
use Rattle.ent_shared.proofs.Common.{rules, ◌≡◌, ℕ, ◌+◌, ◌<◌, ◌≤◌, ℤ, pos, ◌-ℤ◌, ◌≤ℤ◌, List, []}
use Rattle.ent_shared.proofs.Common.{◌∷◌, ◌++◌, length, map, take, refl, sym, ap, ◌∙◌, arith}
use Rattle.ent_shared.proofs.Common.{le-leb, length-append, common_steps, nat_le, All, flat_map}
use Rattle.ent_shared.proofs.Common.{int_min, cases_lt, lt-leb, length-take-le, All-head, All-tail}
use Rattle.ent_shared.proofs.Common.{ints, Handle, Allocator, available, cursor, top, pool_at}
use Rattle.ent_shared.proofs.Common.{after_take, IsSound, after_take-sound, available-after_take}
use Rattle.ent_shared.proofs.Common.{after_take-served, after_take-refused, length-pool}
use Rattle.ent_shared.proofs.Common.{made-after_take, cursor-after_take, pool_at-cursor}
use Rattle.ent_shared.proofs.Common.{length-taken, Reservation, Record, low, own_reservations}
use Rattle.ent_shared.proofs.Common.{Follow, HasItsReply, floor_after, floor_of, least_floor}
use Rattle.ent_shared.proofs.Common.{IsKept, insert_reservation, by_falling_high, as_call, inl, inr}
use Rattle.ent_alloc.specs.History as history

-- the same things to give, and the same slots made
pub record IsLater (start s : Allocator) : Type 0 where
  pub sound : IsSound s
  pub available_is : available s ≡ available start
  pub made_is : s.made ≡ start.made

later_take : (start s : Allocator) (n : ℕ) → IsLater start s → IsLater start (after_take s n)
later_take start s n l = search (rules, after_take-sound, available-after_take, made-after_take)

top_later : (start s : Allocator) → IsLater start s → top s ≡ top start
top_later start s l = search rules

-- the pool where a call's high is the cursor
pool_there : (start s : Allocator) (c : Reservation) → IsLater start s → c.high ≡ cursor s
    → pool_at start c.high ≡ s.pool
pool_there start s c l at = search (rules, at, top_later, pool_at-cursor)

follow_on : (s : Allocator) (c : Reservation) (cs : List Reservation) (end : ℤ) → IsSound s
    → c.high ≡ cursor s → Follow (low c) cs end → Follow (cursor (after_take s c.requested)) cs end
follow_on s c cs end sound at f = search (rules, cursor-after_take)

pub legal_from : (start s : Allocator) (cs : List Reservation) (end : ℤ) → IsLater start s
    → Follow (cursor s) cs end → All (HasItsReply start) cs → history.IsLegal s (map as_call cs)
legal_from start s [] end l f replied = tt
legal_from start s (c ∷ cs) end l f replied =
    let here = replied 0 c (omega arith) in
    let pool = pool_there start s c l f.0 in
    search (
      rules,
      here,
      l.made_is,
      pool,
      legal_from start (after_take s c.requested) cs end,
      later_take,
      follow_on,
      All-tail,
    )

-- the lesser of two that is known
pub min_right : (a b : ℤ) → b ≤ℤ a → int_min a b ≡ b
min_right a b le = grind (arith, ints)

-- of three that are known to be lower or higher
min_up : (a b c : ℤ) → a ≤ℤ b → int_min a (int_min b c) ≡ int_min a c
min_up a b c le = grind (arith, ints)

min_down : (a b c : ℤ) → b ≤ℤ a → int_min a (int_min b c) ≡ int_min b c
min_down a b c le = grind (arith, ints)

min_comm : (a b : ℤ) → int_min a b ≡ int_min b a
min_comm a b = grind (arith, ints)

min_assoc : (a b c : ℤ) → int_min (int_min a b) c ≡ int_min a (int_min b c)
min_assoc a b c = grind (arith, ints)

pub floor_below : (start : Allocator) (cs : List Reservation) → floor_of start cs ≤ℤ cursor start
floor_below start [] = omega (arith, ints)
floor_below start (c ∷ cs) = grind (arith, common_steps, floor_below start cs)

-- where the least of these calls ends is told by how many handles are taken after them
pub taken_floor : (start s : Allocator) (cs : List Reservation) (end : ℤ) → start.asked ≡ 0
    → IsLater start s → Follow (cursor s) cs end
    → int_min (pos (top start) -ℤ pos (length s.taken)) (floor_of start cs)
    ≡ pos (top start) -ℤ pos (length (history.after_history s (map as_call cs)).taken)
taken_floor start s [] end flushed l f = grind (arith, common_steps)
taken_floor start s (c ∷ cs) end flushed l f =
    let n : ℕ = c.requested in
    let a : ℤ = pos (top start) -ℤ pos (length s.taken) in
    let F : ℤ = floor_of start cs in
    let rest = taken_floor start (after_take s n) cs end flushed (later_take start s n l)
    (follow_on s c cs end l.sound f.0 f.2) in
    let tops = top_later start s l in
    let pool = ap (λ (hs : List Handle). nat_le n (length hs)) (pool_there start s c l f.0) in
    let some_request : 0 < n = f.1 in
    elim (cases_lt (length s.pool) n) [
      | inl short ↦
          let same = ap (λ (x : Allocator). length x.taken) (after_take-refused s n short) in
          rw (pool ∙ lt-leb n (length s.pool) short)
          (min_up a (cursor start) F (omega (arith, ints))
          ∙ rw same at rest)
      | inr enough ↦
          let left = length-pool s l.sound in
          let taken : length s.taken ≡ s.asked = length-taken s l.sound (omega arith) in
          let joined = ap (λ (x : Allocator). length x.taken) (after_take-served s n enough)
          ∙ length-append s.taken (take n s.pool) in
          let long = length-take-le n s.pool enough in
          let here : low c ≡ pos (top start) -ℤ pos (length (after_take s n).taken) =
          omega (arith, ints) in
          rw (pool ∙ le-leb n (length s.pool) enough)
          (min_down a (low c) F (omega (arith, ints)) ∙ rw (sym here) at
          rest)
    ]

-- the floor of a list does not depend on its order
floor-append : (start : Allocator) (xs ys : List Reservation)
    → floor_of start (xs ++ ys) ≡ int_min (floor_of start xs) (floor_of start ys)
floor-append start [] ys = search (rules, min_right, floor_below)
floor-append start (x ∷ xs) ys = search (rules, min_assoc, floor-append start xs ys)

floor_inserted : (start : Allocator) (c : Reservation) (cs : List Reservation)
    → floor_of start (insert_reservation c cs) ≡ int_min (floor_after start c) (floor_of start cs)
floor_inserted start c [] = refl
floor_inserted start c (d ∷ ds) = search (rules, min_assoc, min_comm, floor_inserted start c ds)

pub floor_sorted : (start : Allocator) (cs : List Reservation)
    → floor_of start (by_falling_high cs) ≡ floor_of start cs
floor_sorted start [] = refl
floor_sorted start (c ∷ cs) = search (rules, floor_inserted, floor_sorted start cs)

pub floor_of_all : (start : Allocator) (at : ℤ) (log : List Reservation) (records : List Record)
    → All (IsKept start at log) records → least_floor (cursor start) records
    ≡ floor_of start (flat_map (λ (r : Record). own_reservations r.entries) records)
floor_of_all start at log [] all = refl
floor_of_all start at log (r ∷ records) all =
    let kept = All-head (IsKept start at log) r records all in
    search (
      rules,
      floor-append,
      floor_of_all start at log records (All-tail (IsKept start at log) r records all),
    )

pub least_floor-more : (high : ℤ) (rs : List Record) (r : Record)
    → least_floor high (rs ++ r ∷ []) ≡ int_min (least_floor high rs) r.floor
least_floor-more high [] r = grind (arith, ints)
least_floor-more high (x ∷ rs) r = let rest = least_floor-more high rs r in grind (arith, ints)
