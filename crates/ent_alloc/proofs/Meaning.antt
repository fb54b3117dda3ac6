-- What an `Entities` stands for: where nothing is reserved, what is left to give, and where a call
-- begins and ends.
use Rattle.ent_alloc.proofs.Common.{rules, ◌≡◌, ℕ, ℤ, pos, negsuc, ◌-ℤ◌, ◌≤ℤ◌, ◌+◌, ◌-◌, ◌<◌, ◌≤◌}
use Rattle.ent_alloc.proofs.Common.{Bool, false, List, [], ◌∷◌, ◌++◌, length, take, drop, reverse}
use Rattle.ent_alloc.proofs.Common.{filter, refl, ap, arith, suc, zero, subst, All, IsTrue, ◌↔◌}
use Rattle.ent_alloc.proofs.Common.{ints, append_cancel_right, append_assoc, length-append}
use Rattle.ent_alloc.proofs.Common.{length-reverse, length-drop, take-append-drop, take-take}
use Rattle.ent_alloc.proofs.Common.{Handle, Limits, Requests, Roster, Allocator, opening, is_old}
use Rattle.ent_alloc.proofs.Common.{available, top, asked_at, pool_at, IsSound, Entities, idle}
use Rattle.ent_alloc.proofs.Common.{allocator_of, entities_of, beneath, AreReserved}
use Rattle.ent_alloc.proofs.Common.{HasRowsOfLiving}
use Rattle.std.specs.FinSet as sets
use Rattle.std.specs.FinMap as maps
use Rattle.ent_alloc.proofs.FreshHandles.{length-fresh}
use Rattle.ent_alloc.proofs.LaidOut.{old_ones_below}

-- ---- the cursor

pub asked_at-is : (n : ℕ) (z : ℤ) → z ≤ℤ pos n → pos (asked_at n z) ≡ pos n -ℤ z
asked_at-is n (pos c) within = omega (arith, ints)
asked_at-is n (negsuc k) within = omega (arith, ints)

-- ---- what is reserved and what is left

-- how many there are to give
abbrev pub to_give : Roster → ℕ
to_give r = length r.pending + (r.limits.slots - r.made)

pub append_parts : (given asked : ℕ) (hs : List Handle) → given ≤ asked
    → take given hs ++ (drop given (take asked hs) ++ drop asked hs) ≡ hs
append_parts given asked hs within = rw
    (← append_assoc, ← take-take given asked hs within, take-append-drop, take-append-drop)

pub drop_rest : (given asked : ℕ) (hs : List Handle) → given ≤ asked
    → drop given (take asked hs) ++ drop asked hs ≡ drop given hs
drop_rest zero asked hs within = take-append-drop asked hs
drop_rest (suc given) zero hs within = absurd (omega arith)
drop_rest (suc given) (suc asked) [] within = refl
drop_rest (suc given) (suc asked) (h ∷ hs) within = drop_rest given asked hs (omega arith)

pub available_is : (r : Roster) (asked given : ℕ) → given ≤ asked
    → available (allocator_of r asked given) ≡ idle r
available_is r asked given within = append_parts given asked (idle r) within

pub length-idle : (r : Roster) → length (idle r) ≡ to_give r
length-idle r = search (rules, length-append, length-reverse, length-fresh)

module _ (r : Roster) (asked given : ℕ) (within : given ≤ asked)
    (sound : IsSound (allocator_of r asked given)) where
  -- the old handles are those that wait
  pub old_is : filter (is_old r.made) (idle r) ≡ reverse r.pending
  old_is = search (rules, available_is, append_cancel_right)

  pub top_is : top (allocator_of r asked given) ≡ length r.pending
  top_is = search (rules, available_is, old_is, length-reverse)

-- the top and how many there are to give, by the vectors, and the allocator that nothing is
-- reserved of
module _ (r : Roster) (asked given : ℕ) (s : Allocator) (reserved : AreReserved r asked given)
    (view : allocator_of r asked given ≡ s) where
  pub top_view : top s ≡ length r.pending
  top_view = search (rules, top_is)

  pub length_available : length (available s) ≡ to_give r
  length_available = search (rules, available_is, length-idle)

  pub rest_is : s.asked ≡ 0 → allocator_of r 0 0 ≡ s
  rest_is none = search rules

pub opening_is : (limits : Limits) → allocator_of (record {
  limits = limits;
  live = sets.empty;
  rows = maps.empty;
  pending = [];
  made = 0;
}) 0 0 ≡ opening limits
opening_is limits = search (rules)

pub allocator_is : {d e : Entities} → d ≡ e → d.allocator ≡ e.allocator
allocator_is same = ap (λ (e : Entities). e.allocator) same

pub length_left : (r : Roster) (asked : ℕ) → length (drop asked (idle r)) ≡ to_give r - asked
length_left r asked = search (rules, length-drop, length-idle)

pub pending_below : (r : Roster) (asked given : ℕ) → given ≤ asked
    → IsSound (allocator_of r asked given) → All (λ h. h.index < r.made) (reverse r.pending)
pending_below r asked given within sound =
    subst (All (λ h. h.index < r.made)) (old_is r asked given within sound)
    (search (rules, available_is r asked given within, old_ones_below (allocator_of r asked given)))

-- the pool where the cursor was high
pub pool_at_is : (r : Roster) (asked given : ℕ) (high : ℤ) → given ≤ asked
    → IsSound (allocator_of r asked given)
    → drop (beneath r high) (idle r) ≡ pool_at (allocator_of r asked given) high
pool_at_is r asked given high within sound = search (rules, top_is, available_is)

-- ---- where a call begins and ends

abbrev pub none : Requests
none = record { asked = 0; served = 0 }

-- what was requested of an allocator that nothing is reserved of
pub none_is : (r : Roster) (requests : Requests) (s : Allocator)
    → AreReserved r requests.asked requests.served
    → allocator_of r requests.asked requests.served ≡ s → s.asked ≡ 0 → requests ≡ none
none_is r requests s reserved view rest = search rules

-- the vectors stand for this allocator, which reserves as it may
pub record StandFor (r : Roster) (requests : Requests) (s : Allocator) : Type 0 where
  pub view : allocator_of r requests.asked requests.served ≡ s
  pub reserved : AreReserved r requests.asked requests.served

pub closed : (r r' : Roster) (requests : Requests) (s : Allocator) → r ≡ r' → requests ≡ none
    → allocator_of r' 0 0 ≡ s → IsSound s → HasRowsOfLiving (entities_of r' 0 0)
    → StandFor r requests s
closed r r' requests s same rest is sound rows = search rules

-- an allocator that nothing is reserved of
pub record IsAtRest (r : Roster) (requests : Requests) (s : Allocator) : Type 0 where
  pub asked : s.asked ≡ 0
  pub requests_is : requests ≡ none
  pub view : allocator_of r 0 0 ≡ s
  pub sound : IsSound s
  pub rows : HasRowsOfLiving (entities_of r 0 0)

pub at_rest : (r : Roster) (requests : Requests) (s : Allocator) (b : Bool)
    → AreReserved r requests.asked requests.served
    → allocator_of r requests.asked requests.served ≡ s → (IsTrue b ↔ (0 < s.asked)) → b ≡ false
    → IsAtRest r requests s
at_rest r requests s b reserved view tells is = search (rules, rest_is)
