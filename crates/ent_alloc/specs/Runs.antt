-- Runs: calls of one allocator, one after the other, and the handles that they give.
use Rattle.std.specs.Prelude.{◌≡◌, ℕ, List, [], ◌∷◌, ◌++◌, Some, slice_get}
use Rattle.ent_handle.specs.Handle.{Handle}
use Rattle.ent_alloc.specs.Sequential.{Allocator, after_alloc, after_free, after_take, after_flush}
use Rattle.ent_alloc.specs.Sequential.{reply_to}
use Rattle.ent_alloc.specs.Sound.{IsLive}
use Rattle.ent_alloc.specs.History.{handles_in}

-- A call that changes the allocator: one that gave this handle at once, one that freed this handle,
-- a request for that many, served or refused, and a flush. Handles that are given together count as
-- so many single calls.
pub data Step : Type 0 where
  Alloc : Handle → Step
  Free : Handle → Step
  Request : ℕ → Step
  Flush : Step

-- the call may come there
abbrev pub MayCome : Allocator → Step → Type 0
MayCome s (Alloc h) = (s.asked ≡ 0) × (slice_get s.pool 0 ≡ Some h)
MayCome s (Free h) = (s.asked ≡ 0) × IsLive s h
MayCome s (Request n) = Unit {0}
MayCome s Flush = Unit {0}

-- the allocator after it
abbrev pub after_step : Allocator → Step → Allocator
after_step s (Alloc h) = after_alloc s h
after_step s (Free h) = after_free s h
after_step s (Request n) = after_take s n
after_step s Flush = after_flush s

-- the handles that it gives
abbrev pub given_in_step : Allocator → Step → List Handle
given_in_step s (Alloc h) = h ∷ []
given_in_step s (Free h) = []
given_in_step s (Request n) = handles_in (reply_to s n)
given_in_step s Flush = []

-- each call may come after those before it
abbrev pub IsRun : Allocator → List Step → Type 0
IsRun s [] = Unit {0}
IsRun s (step ∷ steps) = MayCome s step × IsRun (after_step s step) steps

abbrev pub after_run : Allocator → List Step → Allocator
after_run s [] = s
after_run s (step ∷ steps) = after_run (after_step s step) steps

abbrev pub given_in_run : Allocator → List Step → List Handle
given_in_run s [] = []
given_in_run s (step ∷ steps) = given_in_step s step ++ given_in_run (after_step s step) steps
