-- What is made of a schedule.
use Rattle.std.specs.Prelude.{◌≡◌, ℕ, List, ◌++◌, codes, Result, Ok, Err}
use Rattle.std.specs.Fmt.{decimal}
use Rattle.std.specs.List.{flat_map}
use Rattle.ent_alloc.specs.Limits.{Limits}
use Rattle.ent_replay.specs.OutcomeText.{line_of}
use Rattle.ent_replay.specs.Schedule.{outcomes_of, starting}
use Rattle.ent_replay.specs.ScheduleText.{line_cause_text, schedule_of}
use Rattle.ent_replay.specs.declared.Cause.{Cause}
use Rattle.ent_replay.specs.declared.Event.{Event}
use Rattle.ent_replay.specs.declared.Outcome.{Outcome}
use Rattle.ent_replay.specs.declared.ReadFault.TheVariants.{Line}
use Rattle.ent_replay.specs.declared.ReplayFault.{ReplayFault}
use Rattle.spawnrun_lib.specs.Found.{line_found}
use Rattle.ent_script.specs.Shown.{ArePrintable}
use Rattle.spawnrun_lib.specs.Wants.{line_wants}
use Rattle.spawnrun_lib.specs.Work.{Refusal}

-- a line for each outcome or fault
abbrev pub outcome_lines : List (Result Outcome ReplayFault) → List ℕ
outcome_lines outcomes = flat_map line_of outcomes

-- the line on a text whose line of this number names no event
abbrev pub refused_line : ℕ → Cause → List ℕ
refused_line line cause =
    codes "refused line " ++ decimal line ++ codes " " ++ line_cause_text cause ++ codes "\n"

-- the text is the outcomes of the schedule that the input spells
abbrev pub Replays : Limits → List ℕ → List ℕ → Type 0
Replays limits input text = (events : List Event) × (schedule_of input ≡ Ok events)
    × (text ≡ outcome_lines (outcomes_of (starting limits) events))

-- The input spells no schedule. The refusal has what the first test that it fails expects, and the
-- line that fails it.
pub record SpellsNone (input : List ℕ) (refusal : Refusal) : Type 0 where
  pub line : ℕ
  pub cause : Cause
  pub spells_none : schedule_of input ≡ Err (Line line cause)
  pub refused : refusal.line ≡ refused_line line cause
  pub wants : refusal.wants ≡ line_wants cause
  pub found : refusal.found ≡ line_found input line
  pub printable : ArePrintable refusal.found
