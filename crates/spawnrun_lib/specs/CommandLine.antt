-- The program's command line, in the words of clap.
use Rattle.std.specs.Prelude.{◌≡◌, ◌⊎◌, ℕ, List, [], ◌∷◌, ◌<◌, ◌≤◌, map, None, Some, pos}
use Rattle.std.specs.Prelude.{true, codes}
use Rattle.std.specs.Borrow.{Bor}
use Rattle.clap.specs.Words.{App, IsAmong, Row, Rule, Text, fault_of, first_of, new_app, new_rule}
use Rattle.clap.specs.Words.{one_of}
use Rattle.clap.specs.Words.{subcommand_of, with_rule, with_subcommand}
use Rattle.clap.specs.Simple.{on_top}
use Rattle.clap.specs.declared.builder.ArgAction.TheVariants.{Set}
use Rattle.clap.specs.declared.builder.value_parser.ValueParser.TheVariants.{Names, Signed}
use Rattle.clap.specs.declared.error.kind.ErrorKind.{ErrorKind}
use Rattle.cli.specs.Fault.{IsFaultAmong}
use Rattle.cli.specs.Options.{HasNumber, generations_option, number_option, option_number}
use Rattle.cli.specs.Options.{slots_option}
use Rattle.cli.specs.declared.line_fault.LineFault.{LineFault}
use Rattle.ent_alloc.specs.Limits.{AreLimits}
use Rattle.spawnrun_lib.specs.declared.show.Show.{Show}
use Rattle.spawnrun_lib.specs.declared.show.Show.TheVariants.{Births, Handles}
use Rattle.spawnrun_lib.specs.declared.task.Task.{Task}
use Rattle.spawnrun_lib.specs.declared.task.Task.TheVariants.{Replay, Run, RunInBlocks}

-- an option that takes one of these names, and has a default
abbrev pub name_option : Text → Bor (List (Bor Text)) → Text → Rule
name_option name names default = record (new_rule name) {
  long = Some name;
  value_names = 1;
  parser = Some (Names names);
  defaults = default ∷ [];
}

abbrev pub replay_command : App
replay_command = with_rule (with_rule (new_app (codes "replay")) slots_option) generations_option

abbrev pub workers_option : Rule
workers_option = number_option (codes "workers") 64 (codes "1")

-- an option that takes a whole number from 1 to `most`, and may be absent
abbrev pub optional_number : Text → ℕ → Rule
optional_number name most = record (new_rule name) {
  long = Some name;
  action = Some Set;
  value_names = 1;
  parser = Some (Signed (pos 1) (pos most));
}

-- a block has no more handles than there may be slots
abbrev pub most_handles : ℕ
most_handles = 4294967295

abbrev pub blocks_option : Rule
blocks_option = optional_number (codes "blocks") most_handles

-- what `--show` takes
abbrev pub show_text : Show → Text
show_text Births = codes "births"
show_text Handles = codes "handles"

abbrev pub shown : List Text
shown = show_text Births ∷ show_text Handles ∷ []

abbrev pub show_option : Bor (List (Bor Text)) → Rule
show_option names = name_option (codes "show") names (codes "births")

abbrev pub run_command : Bor (List (Bor Text)) → App
run_command names =
    with_rule (with_rule (with_rule (new_app (codes "run")) workers_option) blocks_option)
    (show_option names)

-- the words begin after the program's name, and name one of its subcommands
abbrev pub top_command : App
top_command = on_top (λ top. record top {
  no_binary_name = true;
  disable_help_subcommand = true;
  subcommand_required = true;
  has_version = true;
}) (new_app (codes "spawnrun"))

abbrev pub program_of : Bor (List (Bor Text)) → App
program_of names =
    with_subcommand (with_subcommand top_command replay_command.top) (run_command names).top

-- references to these texts, all to one address: clap reads the texts alone
abbrev pub references_to : List Text → Bor (List (Bor Text))
references_to texts = record {
  ref_ptr = (0, 0);
  now = map (λ text. record { ref_ptr = (0, 0); now = text }) texts;
}

abbrev pub program : App
program = program_of (references_to shown)

-- the option's value is one of what `--show` takes
abbrev pub HasShow : List Row → Type 0
HasShow rows = (show : Show) × (first_of (codes "show") rows ≡ Some (show_text show))

-- there are no blocks, or the option's value is a number in its range
abbrev pub MayHaveBlocks : List Row → Type 0
MayHaveBlocks rows =
    (one_of (codes "blocks") rows ≡ None) ⊎ HasNumber (codes "blocks") most_handles rows

-- a number of workers that the program takes
abbrev pub AreWorkers : ℕ → Type 0
AreWorkers workers = (1 ≤ workers) × (workers ≤ 64)

-- how many workers there are, and what is shown
pub record HasWays (rows : List Row) (workers : ℕ) (show : Show) : Type 0 where
  pub workers_are : option_number (codes "workers") rows ≡ Some workers
  pub within : AreWorkers workers
  pub shows : first_of (codes "show") rows ≡ Some (show_text show)

-- the task is a run as these options say, in blocks if they say how many handles a block has
abbrev pub HasRun : List Row → Task → Type 0
HasRun rows (Replay limits) = ⊥
HasRun rows (Run workers show) =
    (option_number (codes "blocks") rows ≡ None) × HasWays rows workers show
HasRun rows (RunInBlocks size workers show) =
    (option_number (codes "blocks") rows ≡ Some size) × (0 < size) × HasWays rows workers show

-- the task is the subcommand that clap finds in the words, with the values of its options
abbrev pub AsksFor : List Text → Task → Type 0
AsksFor words (Replay limits) = (rows : List Row)
    × (subcommand_of program words ≡ Some (codes "replay", rows))
    × (option_number (codes "slots") rows ≡ Some limits.slots)
    × (option_number (codes "generations") rows ≡ Some limits.generations)
    × AreLimits limits
AsksFor words (Run workers show) = (rows : List Row)
    × (subcommand_of program words ≡ Some (codes "run", rows)) × HasRun rows (Run workers show)
AsksFor words (RunInBlocks size workers show) = (rows : List Row)
    × (subcommand_of program words ≡ Some (codes "run", rows))
    × HasRun rows (RunInBlocks size workers show)

-- clap's rules find the fault in the words, unless memory ran out
abbrev pub IsFaultIn : List Text → LineFault → Type 0
IsFaultIn words = IsFaultAmong (fault_of program words)

-- clap's rules find a fault in the words, or a request for help
abbrev pub IsFaulty : List Text → Type 0
IsFaulty words = (kind : ErrorKind) × IsAmong kind (fault_of program words)
