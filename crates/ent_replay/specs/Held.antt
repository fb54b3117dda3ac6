-- The handles that are kept for open calls: given by their steps, and not yet returned by an
-- answer. Only the invariant of `Machine` and proofs use this.
use Rattle.std.specs.Prelude.{ℕ, zero, suc, List, [], ◌++◌, Option, Some, None}
use Rattle.std.specs.Ordering.{nat_cmp}
use Rattle.std.specs.FinMap as finite
use Rattle.ent_handle.specs.Handle.{Handle}
use Rattle.ent_alloc.specs.History.{handles_in}
use Rattle.ent_replay.specs.Schedule.{OpenCall, Reply, callers}

-- f of the numbers below the given one, one list after the other
unfoldable pub joined : (ℕ → List Handle) → ℕ → List Handle
joined f zero = []
joined f (suc n) = joined f n ++ f n

-- what a call has that has made its step, or has not
abbrev pub held_by : Option Reply → List Handle
held_by None = []
held_by (Some reply) = handles_in reply

-- what a caller has
abbrev pub held : Option OpenCall → List Handle
held None = []
held (Some call) = held_by call.reply

-- what all callers have
abbrev pub all_held : finite.FinMap nat_cmp OpenCall → List Handle
all_held calls = joined (λ q. held (finite.get calls q)) callers
