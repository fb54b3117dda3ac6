-- Schedules: what each event gives, and what it does to the state. The reply to a call is fixed at
-- its step.
use Rattle.std.specs.Prelude.{◌≡◌, ℕ, ◌+◌, ◌-◌, Bool, true, false, not, nat_lt, ◌==◌, if◌then◌else◌}
use Rattle.std.specs.Prelude.{◌⊎◌, refl}
use Rattle.std.specs.Prelude.{List, [], ◌∷◌, length, take, slice_get, Option, Some, None, IsSomeAnd}
use Rattle.std.specs.Prelude.{Result, Ok, Err}
use Rattle.std.specs.Option.{unwrap_or, is_some}
use Rattle.std.specs.Ordering.{nat_cmp}
use Rattle.std.specs.Coded.{Coded, code_by, coded×, coded_ℕ, coded_list, coded_option, coded_result}
use Rattle.std.specs.FinMap as map
use Rattle.std.specs.FinSet as set
use Rattle.ent_handle.specs.Handle.{Handle, handle_code}
use Rattle.ent_alloc.specs.Limits.{Limits, quota}
use Rattle.ent_alloc.specs.Sequential.{Allocator, allocator_code, opening, cursor, is_fresh, next}
use Rattle.ent_alloc.specs.Sequential.{after_take, reply_to, born, after_flush, after_alloc}
use Rattle.ent_alloc.specs.Sequential.{after_free}
use Rattle.ent_alloc.specs.declared.space.Space.{Space}
use Rattle.ent_replay.specs.declared.event.Event.{Event}
use Rattle.ent_replay.specs.declared.event.Event.TheVariants as event
use Rattle.ent_replay.specs.declared.outcome.Outcome.{Outcome}
use Rattle.ent_replay.specs.declared.outcome.Outcome.TheVariants as outcome
use Rattle.ent_replay.specs.declared.fault.ReplayFault.{ReplayFault}
use Rattle.ent_replay.specs.declared.fault.ReplayFault.TheVariants as fault

-- what a step said to a call: the handles, or how few there were
abbrev pub Reply : Type 0
Reply = Result (List Handle) Space

-- a call that was begun and not yet answered: its request, and once it has made its step the reply
pub record OpenCall : Type 0 where
  pub requested : ℕ
  pub reply : Option Reply

-- The allocator, what each caller has requested since the last flush, and the calls that are open.
-- A caller that is in neither map has requested nothing and has no open call.
pub record MachineState : Type 0 where
  pub allocator : Allocator
  pub spent : map.FinMap nat_cmp ℕ
  pub calls : map.FinMap nat_cmp OpenCall

-- no caller has requested anything
abbrev pub starting : Limits → MachineState
starting limits = record { allocator = opening limits; spent = map.empty; calls = map.empty }

-- what an event returns, and the state after it
abbrev pub Returned : Type 0
Returned = Result Outcome ReplayFault × MachineState

-- a fault changes nothing
abbrev pub refuse : MachineState → ReplayFault → Returned
refuse s why = (Err why, s)

-- nor do some outcomes
abbrev pub say : MachineState → Outcome → Returned
say s what = (Ok what, s)

-- An event with this outcome may take memory: it makes a slot, frees one that is given again,
-- brings handles to life, opens a call, or lists what a call was given. No other event takes any:
-- no fault, no handle of an old slot, no slot that is retired, no empty list.
abbrev pub event_takes_memory : MachineState → Result Outcome ReplayFault → Bool
event_takes_memory s (Ok (outcome.Handle h)) = is_fresh s.allocator.made h
event_takes_memory s (Ok (outcome.Freed h after)) = is_some after
event_takes_memory s (Ok (outcome.Born handles)) = nat_lt 0 (length handles)
event_takes_memory s (Ok outcome.Open) = true
event_takes_memory s (Ok (outcome.Handles handles)) = nat_lt 0 (length handles)
event_takes_memory s other = false

-- ---- events that need the allocator to themselves

-- some call is open
abbrev pub is_busy : MachineState → Bool
is_busy s = not (map.len s.calls == 0)

-- handles were asked for since the last flush
abbrev pub state_needs_flush : MachineState → Bool
state_needs_flush s = nat_lt 0 s.allocator.asked

abbrev pub alloc_front : MachineState → List Handle → Returned
alloc_front s [] = say s (outcome.Space 1 0)
alloc_front s (h ∷ rest) =
    (Ok (outcome.Handle h), record s { allocator = after_alloc s.allocator h })

abbrev pub on_alloc : MachineState → Returned
on_alloc s =
    if is_busy s then refuse s fault.Busy else
    (if state_needs_flush s then say s outcome.NeedsFlush else alloc_front s s.allocator.pool)

abbrev pub on_free : MachineState → Handle → Returned
on_free s h =
    if is_busy s then refuse s fault.Busy else
    (if state_needs_flush s then say s outcome.NeedsFlush else
    (if set.contains s.allocator.live h
    then (
      Ok (outcome.Freed h (next s.allocator.limits h)),
      record s { allocator = after_free s.allocator h },
    )
    else say s outcome.NotAlive))

-- it also renews the quota of every caller
abbrev pub on_flush : MachineState → Returned
on_flush s =
    if is_busy s then refuse s fault.Busy else (
      Ok (outcome.Born (born s.allocator)),
      record s { allocator = after_flush s.allocator; spent = map.empty },
    )

-- ---- the three events of a call

-- how many callers there are; they are numbered from 0
abbrev pub callers : ℕ
callers = 1024

-- how many handles a caller has requested since the last flush
abbrev pub spent_by : MachineState → ℕ → ℕ
spent_by s caller = unwrap_or (map.get s.spent caller) 0

-- how many it may still request
abbrev pub left_of : MachineState → ℕ → ℕ
left_of s caller = quota - spent_by s caller

abbrev pub begin_with : MachineState → ℕ → ℕ → Option OpenCall → Returned
begin_with s caller n (Some call) = refuse s fault.AlreadyOpen
begin_with s caller n None =
    if nat_lt (left_of s caller) n then refuse s (fault.Quota (left_of s caller)) else (
      Ok outcome.Open,
      record s {
        spent = map.insert s.spent caller (spent_by s caller + n);
        calls = map.insert s.calls caller (record { requested = n; reply = None });
      },
    )

abbrev pub on_begin : MachineState → ℕ → ℕ → Returned
on_begin s caller n =
    if nat_lt caller callers then begin_with s caller n (map.get s.calls caller)
    else refuse s fault.Caller

-- the request takes from the pool, and the reply is fixed
abbrev pub step_with : MachineState → ℕ → ℕ → Option Reply → Returned
step_with s caller n (Some reply) = refuse s fault.AlreadyStepped
step_with s caller n None = (
  Ok (outcome.Cursor (cursor (after_take s.allocator n))),
  record s {
    allocator = after_take s.allocator n;
    calls = map.insert s.calls caller
        (record { requested = n; reply = Some (reply_to s.allocator n) });
  },
)

abbrev pub step_open : MachineState → ℕ → Option OpenCall → Returned
step_open s caller None = refuse s fault.NotOpen
step_open s caller (Some call) = step_with s caller call.requested call.reply

abbrev pub on_step : MachineState → ℕ → Returned
on_step s caller =
    if nat_lt caller callers then step_open s caller (map.get s.calls caller)
    else refuse s fault.Caller

-- the reply as it is reported
abbrev pub reported : Reply → Outcome
reported (Ok handles) = outcome.Handles handles
reported (Err space) = outcome.Space space.wanted space.left

abbrev pub answer_with : MachineState → ℕ → Option Reply → Returned
answer_with s caller None = refuse s fault.NotStepped
answer_with s caller (Some reply) =
    (Ok (reported reply), record s { calls = map.remove s.calls caller })

abbrev pub answer_open : MachineState → ℕ → Option OpenCall → Returned
answer_open s caller None = refuse s fault.NotOpen
answer_open s caller (Some call) = answer_with s caller call.reply

abbrev pub on_answer : MachineState → ℕ → Returned
on_answer s caller =
    if nat_lt caller callers then answer_open s caller (map.get s.calls caller)
    else refuse s fault.Caller

-- ---- whole schedules

abbrev pub on_event : MachineState → Event → Returned
on_event s event.Alloc = on_alloc s
on_event s (event.Free h) = on_free s h
on_event s event.Flush = on_flush s
on_event s (event.Begin caller n) = on_begin s caller n
on_event s (event.Step caller) = on_step s caller
on_event s (event.Answer caller) = on_answer s caller

-- what the event answers
abbrev pub outcome_of : MachineState → Event → Result Outcome ReplayFault
outcome_of s e = (on_event s e).0

-- the state after it
abbrev pub after_event : MachineState → Event → MachineState
after_event s e = (on_event s e).1

-- what the events answer, one after the other
abbrev pub outcomes_of : MachineState → List Event → List (Result Outcome ReplayFault)
outcomes_of s [] = []
outcomes_of s (e ∷ events) = outcome_of s e ∷ outcomes_of (after_event s e) events

-- the state after them all
abbrev pub after_events : MachineState → List Event → MachineState
after_events s [] = s
after_events s (e ∷ events) = after_events (after_event s e) events

-- Memory ran out after that many events: the next one would have taken some, or nothing was done
-- and there was no room to list the outcomes.
abbrev pub RunsOutAt : MachineState → List Event → ℕ → Type 0
RunsOutAt s events done = (done ≡ 0) ⊎ IsSomeAnd (slice_get events done) (λ e.
    event_takes_memory (after_events s (take done events))
    (outcome_of (after_events s (take done events)) e) ≡ true)

-- an open call is stored as the pair of its fields
abbrev pub open_call_code : Coded OpenCall
open_call_code =
    code_by
    (ℕ × Option Reply)
    (coded× coded_ℕ (coded_option (coded_result (coded_list handle_code) space_code)))
    (λ c. (c.requested, c.reply))
    (λ p. record { requested = p.0; reply = p.1 })
    (λ _. refl)
  where
    space_code : Coded Space
    space_code =
        code_by (ℕ × ℕ) (coded× coded_ℕ coded_ℕ) (λ s. (s.wanted, s.left))
        (λ p. record { wanted = p.0; left = p.1 }) (λ _. refl)

-- a state as the tuple of its fields
abbrev pub machine_state_code : Coded MachineState
machine_state_code =
    code_by
    (Allocator × (map.FinMap nat_cmp ℕ × map.FinMap nat_cmp OpenCall))
    (coded× allocator_code (coded× (map.code coded_ℕ coded_ℕ) (map.code coded_ℕ open_call_code)))
    (λ s. (s.allocator, (s.spent, s.calls)))
    (λ p. record { allocator = p.0; spent = p.1.0; calls = p.1.1 })
    (λ _. refl)
