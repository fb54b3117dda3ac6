-- What the fields of a `Machine` represent, and when they represent anything. Only its model,
-- private contracts and proofs use this.
use Rattle.std.specs.Prelude.{◌≡◌, ℕ, ◌+◌, ◌^◌, ◌<◌, ◌≤◌, pos, ◌-ℤ◌, ◌≤ℤ◌, neg_ℤ, true, map, Option}
use Rattle.std.specs.Prelude.{Some, None, Result, Err, ◌⊎◌}
use Rattle.std.specs.Option.{unwrap_or, option_map}
use Rattle.std.specs.Ordering.{nat_cmp}
use Rattle.std.specs.FinMap as finite
use Rattle.ent_alloc.specs.Limits.{quota}
use Rattle.ent_alloc.specs.Sequential.{Allocator, top, pool_at, reply_from}
use Rattle.ent_alloc.specs.Sound.{IsSound}
use Rattle.ent_alloc.specs.Spent as given
use Rattle.ent_alloc.specs.declared.span.Span.{Span}
use Rattle.ent_replay.specs.declared.stored_call.StoredCall.{StoredCall}
use Rattle.ent_replay.specs.declared.outcome.Outcome.{Outcome}
use Rattle.ent_replay.specs.declared.fault.ReplayFault.{ReplayFault}
use Rattle.ent_replay.specs.declared.fault.ReplayFault.TheVariants as fault
use Rattle.ent_replay.specs.Schedule.{MachineState, OpenCall, Returned, event_takes_memory, callers}
use Rattle.ent_replay.specs.Totals.{sum_below}
use Rattle.ent_replay.specs.Held.{all_held}

-- the same keys, with f of each value
abbrev pub map_values : {X Y : Type 0} → (X → Y) → finite.FinMap nat_cmp X → finite.FinMap nat_cmp Y
map_values f m = finite.from_entries (map (λ e. (e.0, f e.1)) (finite.entries m))

-- The positions that a call's step passed determine its reply, whatever was taken since.
abbrev pub open_call_of : Allocator → StoredCall → OpenCall
open_call_of s call = record {
  requested = call.requested;
  reply = option_map (λ span. reply_from s.made (pool_at s span.high) call.requested) call.span;
}

abbrev pub machine_state : Allocator → finite.FinMap nat_cmp ℕ
    → finite.FinMap nat_cmp StoredCall → MachineState
machine_state s spent calls =
    record { allocator = s; spent = spent; calls = map_values (open_call_of s) calls }

-- what a call will ask for at its step
abbrev pub unasked : ℕ → Option Span → ℕ
unasked requested None = requested
unasked requested (Some span) = 0

abbrev pub awaited : Option StoredCall → ℕ
awaited None = 0
awaited (Some call) = unasked call.requested call.span

-- the span was passed since the last flush, by a request for n
pub record HasPassed (s : Allocator) (n : ℕ) (span : Span) : Type 0 where
  pub least : neg_ℤ (pos (2 ^ 60)) ≤ℤ span.high
  pub high : span.high ≤ℤ pos (top s)
  pub low : span.low ≡ span.high -ℤ pos n

-- What was asked for, and what the open calls will ask for, is within what the callers have spent
-- of their quota. What is kept for the open calls was given once.
pub record AreConsistent (s : Allocator) (spent : finite.FinMap nat_cmp ℕ)
    (calls : finite.FinMap nat_cmp StoredCall) : Type 0 where
  pub sound : IsSound s
  pub quota : (q : ℕ) → unwrap_or (finite.get spent q) 0 ≤ quota
  pub asked : s.asked + sum_below (λ q. awaited (finite.get calls q)) callers
      ≤ sum_below (λ q. unwrap_or (finite.get spent q) 0) callers
  pub requests : (q : ℕ) (call : StoredCall) → finite.get calls q ≡ Some call
      → call.requested < 2 ^ 32
  pub spans : (q : ℕ) (call : StoredCall) (span : Span) → finite.get calls q ≡ Some call
      → call.span ≡ Some span → HasPassed s call.requested span
  pub once : given.AreSpent s (all_held (map_values (open_call_of s) calls))

-- The machine did this step; or it was one that takes memory, memory ran out, and nothing has
-- changed.
abbrev pub Makes : Returned → MachineState → Result Outcome ReplayFault → MachineState → Type 0
Makes step before result after =
    ((result ≡ step.0) × (after ≡ step.1))
    ⊎ ((result ≡ Err fault.Memory) × (after ≡ before) × (event_takes_memory before step.0 ≡ true))
