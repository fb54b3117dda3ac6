-- The reservations of a run in an order that they may have come in: those that agree, and the
-- others.
use Rattle.std.specs.Prelude.{◌≡◌, ℕ, ◌+◌, ◌^◌, ◌≤◌, ◌==◌, Bool, List, [], ◌∷◌, ◌++◌, filter}
use Rattle.std.specs.Prelude.{length}
use Rattle.ent_alloc.specs.Sequential.{Allocator, cursor, reply_to}
use Rattle.ent_alloc.specs.Sound.{IsSound}
use Rattle.ent_replay.specs.declared.trace.lineup.Lineup.{Lineup}
use Rattle.ent_replay.specs.declared.trace.call.Call.{Call}
use Rattle.ent_replay.specs.declared.trace.placed.Placed.{Placed}
use Rattle.ent_replay.specs.Trace.{AreAnswered, FitsReserved, after_lines}
use Rattle.ent_replay.specs.Checker.{Differs, requested_in, reservations_of, reserve_lines}
use Rattle.ent_replay.specs.declared.trace.difference.Difference.{Difference}
use Rattle.ent_replay.specs.declared.trace.call.Call.TheVariants as line

-- the reservation is this caller's
abbrev pub is_of : ℕ → Placed → Bool
is_of q p = p.reservation.caller == q

-- the second list has the reservations of each caller as the first has them
abbrev pub KeepsCallers : List Placed → List Placed → Type 0
KeepsCallers run order = (q : ℕ) → filter (is_of q) order ≡ filter (is_of q) run

abbrev pub lines_of : List Placed → List Call
lines_of run = reserve_lines (reservations_of run)

-- the reply is the allocator's in this state
abbrev pub FitsAt : Allocator → Placed → Type 0
FitsAt s p = FitsReserved p.reservation.reply (reply_to s p.reservation.requested)

-- no caller's first reservation in the list fits
abbrev pub NoneFits : Allocator → List Placed → Type 0
NoneFits s rest = (before : List Placed) (p : Placed) (after : List Placed)
    → rest ≡ before ++ p ∷ after → filter (is_of p.reservation.caller) before ≡ [] → ¬ (FitsAt s p)

abbrev pub all_of : Lineup → List Placed
all_of l = l.placed.items ++ l.rest.items

-- the state after those that agree
abbrev pub reached : Allocator → Lineup → Allocator
reached s l = after_lines s (lines_of l.placed.items)

-- those that are placed agree from this state on, one after the other
pub record IsLineup (s : Allocator) (l : Lineup) : Type 0 where
  pub sound : IsSound s
  pub answered : AreAnswered s (lines_of l.placed.items)
  pub at_is : l.at ≡ cursor (reached s l)
  pub few : s.asked + requested_in (reservations_of (all_of l)) ≤ 2 ^ 50

-- the difference names the first reservation of a caller among those that are left
pub record NamesOne (s : Allocator) (l : Lineup) (d : Difference) : Type 0 where
  pub before : List Placed
  pub named : Placed
  pub after : List Placed
  pub is : l.rest.items ≡ before ++ named ∷ after
  pub first : filter (is_of named.reservation.caller) before ≡ []
  pub differs : (n : ℕ) → Differs (reached s l) n (line.Reserve named.reservation) d

-- the reservation at this index is its caller's first in the list
pub record IsFirstAt (rest : List Placed) (index : ℕ) : Type 0 where
  pub before : List Placed
  pub named : Placed
  pub after : List Placed
  pub is : rest ≡ before ++ named ∷ after
  pub index_is : index ≡ length before
  pub first : filter (is_of named.reservation.caller) before ≡ []
