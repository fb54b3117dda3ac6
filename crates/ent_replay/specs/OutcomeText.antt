-- The line of each outcome and of each fault.
use Rattle.std.specs.Prelude.{ℕ, Bool, true, false, List, [], ◌∷◌, ◌++◌, map, codes}
use Rattle.std.specs.Prelude.{Option, Some, None, Result, Ok, Err}
use Rattle.std.specs.Fmt.{decimal, signed_decimal}
use Rattle.std.specs.List.{flat_map, join_with_byte}
use Rattle.ent_handle.specs.Handle.{Handle}
use Rattle.ent_handle.specs.Text.{handle_text}
use Rattle.ent_replay.specs.declared.outcome.Outcome.{Outcome}
use Rattle.ent_replay.specs.declared.outcome.Outcome.TheVariants as outcomes
use Rattle.ent_replay.specs.declared.fault.ReplayFault.{ReplayFault}
use Rattle.ent_replay.specs.declared.fault.ReplayFault.TheVariants as faults

-- handles with one space between
abbrev pub handles_text : List Handle → List ℕ
handles_text handles = join_with_byte 32 (map handle_text handles)

-- a space before each handle
abbrev pub spaced : List Handle → List ℕ
spaced handles = flat_map (λ h. 32 ∷ handle_text h) handles

abbrev pub born_text : List Handle → List ℕ
born_text handles = codes "born" ++ spaced handles

-- what the slot of a freed handle gives next
abbrev pub next_text : Option Handle → List ℕ
next_text None = codes " retired"
next_text (Some next) = codes " next " ++ handle_text next

abbrev pub freed_text : Handle → Option Handle → List ℕ
freed_text handle next = codes "freed " ++ handle_text handle ++ next_text next

abbrev pub space_text : ℕ → ℕ → List ℕ
space_text wanted left = codes "space wanted " ++ decimal wanted ++ codes " left " ++ decimal left

abbrev pub outcome_text : Outcome → List ℕ
outcome_text (outcomes.Handle h) = handle_text h
outcome_text outcomes.NeedsFlush = codes "needs flush"
outcome_text (outcomes.Freed handle next) = freed_text handle next
outcome_text outcomes.NotAlive = codes "not alive"
outcome_text (outcomes.Born handles) = born_text handles
outcome_text outcomes.Open = codes "open"
outcome_text (outcomes.Cursor cursor) = codes "cursor " ++ signed_decimal cursor
outcome_text (outcomes.Handles handles) = handles_text handles
outcome_text (outcomes.Space wanted left) = space_text wanted left

-- lack of memory has no text, since no line is written of it
abbrev pub replay_fault_text : ReplayFault → List ℕ
replay_fault_text faults.Busy = codes "busy"
replay_fault_text faults.NotOpen = codes "not open"
replay_fault_text faults.AlreadyOpen = codes "already open"
replay_fault_text faults.NotStepped = codes "not stepped"
replay_fault_text faults.AlreadyStepped = codes "already stepped"
replay_fault_text (faults.Quota left) = codes "quota left " ++ decimal left
replay_fault_text faults.Caller = codes "caller"
replay_fault_text faults.Memory = []

-- the text, and a line feed
abbrev pub line_of : Result Outcome ReplayFault → List ℕ
line_of (Ok outcome) = outcome_text outcome ++ 10 ∷ []
line_of (Err fault) = replay_fault_text fault ++ 10 ∷ []

-- the outcome lists handles, so its line may be long
abbrev pub lists_handles : Outcome → Bool
lists_handles (outcomes.Born handles) = true
lists_handles (outcomes.Handles handles) = true
lists_handles other = false
