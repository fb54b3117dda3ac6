-- Runs of a schedule as histories: the calls between two flushes in the order of their steps, and
-- the handles that are given.
use Rattle.std.specs.Prelude.{◌≡◌, ℕ, zero, suc, nat_lt, ◌==◌, if◌then◌else◌}
use Rattle.std.specs.Prelude.{List, [], ◌∷◌, ◌++◌, Option, Some, None, Result, Ok, ◌⊎◌}
use Rattle.std.specs.List.{flat_map}
use Rattle.std.specs.Option.{option_or}
use Rattle.std.specs.FinMap as map
use Rattle.ent_handle.specs.Handle.{Handle}
use Rattle.ent_alloc.specs.Sequential.{Allocator, reply_to}
use Rattle.ent_alloc.specs.History.{Call, IsLegal, after_history}
use Rattle.ent_replay.specs.declared.event.Event.{Event}
use Rattle.ent_replay.specs.declared.event.Event.TheVariants as event
use Rattle.ent_replay.specs.declared.outcome.Outcome.{Outcome}
use Rattle.ent_replay.specs.declared.outcome.Outcome.TheVariants as outcome
use Rattle.ent_replay.specs.declared.fault.ReplayFault.{ReplayFault}
use Rattle.ent_replay.specs.Schedule.{MachineState, OpenCall, Reply, after_event, callers, reported}

-- ---- the history of steps

-- a first step for some handles is a reservation; a request for none is none
abbrev pub reserved_by_request : MachineState → ℕ → ℕ → Option Reply → List Call
reserved_by_request s caller n (Some reply) = []
reserved_by_request s caller zero None = []
reserved_by_request s caller (suc n) None =
    record { caller = caller; requested = suc n; reply = reply_to s.allocator (suc n) } ∷ []

abbrev pub reserved_by_call : MachineState → ℕ → Option OpenCall → List Call
reserved_by_call s caller None = []
reserved_by_call s caller (Some call) = reserved_by_request s caller call.requested call.reply

-- the reservation that the event makes, if it makes one
abbrev pub reservations : MachineState → Event → List Call
reservations s (event.Step caller) =
    if nat_lt caller callers then reserved_by_call s caller (map.get s.calls caller) else []
reservations s other = []

-- the allocator as it was when last nothing was asked for, and the reservations since then
pub record Phase : Type 0 where
  pub start : Allocator
  pub calls : List Call

-- the phase after an event: a new one begins wherever nothing is asked for
abbrev pub phase_after : Phase → MachineState → Event → Phase
phase_after p s e =
    if (after_event s e).allocator.asked == 0
    then record { start = (after_event s e).allocator; calls = [] }
    else record { start = p.start; calls = p.calls ++ reservations s e }

-- the caller's last reservation
abbrev pub last_of : ℕ → List Call → Option Call
last_of caller [] = None
last_of caller (call ∷ calls) =
    option_or (last_of caller calls) (if call.caller == caller then Some call else None)

-- the possible answers to the caller's request: none for a request for none, and otherwise the
-- reply to the caller's last reservation, which was for as many
abbrev pub TellsOf : List Call → ℕ → ℕ → Outcome → Type 0
TellsOf calls caller requested told =
    ((requested ≡ 0) × (told ≡ outcome.Handles []))
    ⊎ ((call : Call) × (last_of caller calls ≡ Some call) × (call.requested ≡ requested)
    × (told ≡ reported call.reply))

-- An answer is to the request of the caller's open call.
abbrev pub TellsReply : MachineState → List Call → Event → Result Outcome ReplayFault → Type 0
TellsReply s calls (event.Answer caller) (Ok told) =
    (call : OpenCall) × (map.get s.calls caller ≡ Some call)
    × TellsOf calls caller call.requested told
TellsReply s calls e result = Unit {0}

-- After each event the reservations of the phase, in the order of their steps, are a legal history
-- that leads from its start to the allocator, and each answer is a reply of that history: so it
-- doesn't matter when a call is answered.
abbrev pub StandInHistory : Phase → MachineState → List Event
    → List (Result Outcome ReplayFault) → Type 0
StandInHistory p s [] results = Unit {0}
StandInHistory p s (e ∷ events) [] = ⊥
StandInHistory p s (e ∷ events) (result ∷ results) =
    TellsReply s p.calls e result
    × IsLegal (phase_after p s e).start (phase_after p s e).calls
    × (after_history (phase_after p s e).start (phase_after p s e).calls
    ≡ (after_event s e).allocator)
    × StandInHistory (phase_after p s e) (after_event s e) events results

-- no call is open, and nothing is asked for
pub record IsAtRest (s : MachineState) : Type 0 where
  pub closed : s.calls ≡ map.empty
  pub flushed : s.allocator.asked ≡ 0

-- the phase that begins there
abbrev pub new_phase : MachineState → Phase
new_phase s = record { start = s.allocator; calls = [] }

-- ---- the handles that are given

-- what an outcome gives; the handle that a freed slot gives next is not given yet
abbrev pub given_by : Result Outcome ReplayFault → List Handle
given_by (Ok (outcome.Handle h)) = h ∷ []
given_by (Ok (outcome.Handles handles)) = handles
given_by other = []

-- what all outcomes give
abbrev pub given_by_all : List (Result Outcome ReplayFault) → List Handle
given_by_all results = flat_map given_by results
