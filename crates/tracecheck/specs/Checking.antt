-- What was taken of a trace so far.
use Rattle.std.specs.Prelude.{◌≡◌, ◌≢◌, ℕ, ◌+◌, List, ◌++◌, length, All, Ok}
use Rattle.std.specs.List.{sum_by}
use Rattle.ent_alloc.specs.Sequential.{Allocator}
use Rattle.ent_replay.specs.Checker.{AllFollow, ReachesAll, requested_in}
use Rattle.tracecheck.specs.Beginning.{begun}
use Rattle.ent_replay.specs.Text.{lines_of}
use Rattle.ent_replay.specs.declared.trace.call.Call.{Call}
use Rattle.tracecheck.specs.Calls.{AskFew, calls_from, given_in, requested_from}
use Rattle.tracecheck.specs.declared.checking.Checking.{Checking}

-- these lines were taken, from the first on
pub record HasTaken (begin : Allocator) (texts : List (List ℕ)) (c : Checking) : Type 0 where
  pub calls : List Call
  pub read : calls_from 1 texts ≡ Ok calls
  pub follow : AllFollow (begun begin) calls c.comparer
  pub reached : ReachesAll (begun begin) calls c.comparer
  pub requested : c.comparer.allocator.asked + requested_in c.comparer.run
      ≡ requested_from begin.asked calls
  pub few : AskFew begin.asked calls
  pub lines : c.lines ≡ length texts
  pub given : c.given ≡ sum_by given_in calls

-- This text was read: its lines that have an end are taken, and what follows them is pending.
pub record HasRead (begin : Allocator) (text : List ℕ) (c : Checking) (pending : List ℕ)
    : Type 0 where
  pub texts : List (List ℕ)
  pub taken : HasTaken begin texts c
  pub unended : All (λ byte. byte ≢ 10) pending
  -- whatever comes then
  pub lines : (more : List ℕ) → lines_of (text ++ more) ≡ texts ++ lines_of (pending ++ more)
