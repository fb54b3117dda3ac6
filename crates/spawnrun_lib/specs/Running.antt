-- What is made of a script.
use Rattle.std.specs.Prelude.{◌≡◌, ℕ, List, Ok, Err}
use Rattle.ent_script.specs.Reading.{script_of_text}
use Rattle.ent_script.specs.Refusal.{refusal_line}
use Rattle.ent_script.specs.Script.{Script}
use Rattle.ent_script.specs.declared.ReadFault.{ReadFault}
use Rattle.spawnrun_lib.specs.declared.show.Show.{Show}
use Rattle.spawnrun_lib.specs.declared.show.Show.TheVariants.{Births}
use Rattle.ent_alloc.specs.History.{AreGivenOnce}
use Rattle.spawnrun_lib.specs.Given.{handles_in_run}
use Rattle.spawnrun_lib.specs.Report.{Execution, IsReport, IsReportOf}
use Rattle.spawnrun_lib.specs.ReportInBlocks.{IsTextInBlocks}
use Rattle.spawnrun_lib.specs.SameReport.{IsWithoutHandles, HasEnoughSlots, TellsNoRefusal}
use Rattle.spawnrun_lib.specs.ScriptAlone.{text_alone}
use Rattle.ent_script.specs.Found.{TellsOfScript}
use Rattle.ent_script.specs.Shown.{ArePrintable}
use Rattle.spawnrun_lib.specs.Wants.{script_wants}
use Rattle.spawnrun_lib.specs.Work.{Refusal}

-- a report that the run of a script may write
pub record IsScriptReport (script : Script) (workers : ℕ) (show : Show) (text : List ℕ)
    : Type 0 where
  -- the frames may have gone so
  pub report : IsReport script workers show text
  -- one worker writes no other
  pub only : workers ≡ 1 → (other : List ℕ) → IsReport script workers show other → text ≡ other
  -- no handle was given twice, however the frames went
  pub given_once : (executions : List Execution)
      → IsReportOf script workers show executions text → AreGivenOnce (handles_in_run executions)
  -- By births, a script that names no handle has one text, however many workers run it, if no line
  -- of the text reports a refused request.
  pub same : show ≡ Births → IsWithoutHandles script → TellsNoRefusal text
      → text ≡ text_alone script
  -- and in any case, if its operations request no more handles in all than it has slots
  pub enough : show ≡ Births → IsWithoutHandles script → HasEnoughSlots script
      → text ≡ text_alone script

-- the text is a report of the script that the input means
abbrev pub Runs : ℕ → Show → List ℕ → List ℕ → Type 0
Runs workers show input text = (script : Script) × (script_of_text input ≡ Ok script)
    × IsScriptReport script workers show text

-- The text is that of the script that the input means, in blocks of this size, and the script has
-- no other one. So it is the same however many workers there are, and in whatever order they ran.
abbrev pub RunsInBlocks : ℕ → Show → List ℕ → List ℕ → Type 0
RunsInBlocks size show input text = (script : Script) × (script_of_text input ≡ Ok script)
    × IsTextInBlocks script size show text
    × ((other : List ℕ) → IsTextInBlocks script size show other → text ≡ other)

-- The input means no script. The refusal has what the first test that it fails expects, and what
-- the test found.
pub record MeansNone (input : List ℕ) (refusal : Refusal) : Type 0 where
  pub fault : ReadFault
  pub means_none : script_of_text input ≡ Err fault
  pub refused : refusal.line ≡ refusal_line fault
  pub wants : refusal.wants ≡ script_wants fault
  pub found : TellsOfScript input fault refusal.found
  pub printable : ArePrintable refusal.found
