-- Histories: the reservations of many callers in one order, and what the sequential allocator says
-- to them.
use Rattle.std.specs.Prelude.{◌≡◌, ◌≢◌, ℕ, ◌<◌, List, [], ◌∷◌, ◌++◌, map, Result, Ok, Err}
use Rattle.std.specs.List.{AllPairs}
use Rattle.ent_handle.specs.Handle.{Handle}
use Rattle.ent_alloc.specs.declared.space.Space.{Space}
use Rattle.ent_alloc.specs.Sequential.{Allocator, after_take, reply_to}

-- one reservation: its caller, for how many handles it was, and what was returned
pub record Call : Type 0 where
  pub caller : ℕ
  pub requested : ℕ
  pub reply : Result (List Handle) Space

-- Each call in turn gets the reply of the allocator at that point of the history.
abbrev pub IsLegal : Allocator → List Call → Type 0
IsLegal s [] = Unit {0}
IsLegal s (call ∷ calls) =
    (0 < call.requested)
    × (call.reply ≡ reply_to s call.requested)
    × IsLegal (after_take s call.requested) calls

-- the allocator after all calls
abbrev pub after_history : Allocator → List Call → Allocator
after_history s [] = s
after_history s (call ∷ calls) = after_history (after_take s call.requested) calls

-- the handles of a reply
abbrev pub handles_in : Result (List Handle) Space → List Handle
handles_in (Ok handles) = handles
handles_in (Err space) = []

-- the handles of all replies
abbrev pub given_in : List Call → List Handle
given_in [] = []
given_in (call ∷ calls) = handles_in call.reply ++ given_in calls

-- no handle is given twice
abbrev pub AreGivenOnce : List Handle → Type 0
AreGivenOnce handles = AllPairs (λ g h. g ≢ h) handles

-- For proofs: how many handles each call requested.
abbrev pub requests_of : List Call → List ℕ
requests_of calls = map (λ (call : Call). call.requested) calls
