-- The program's command line, in the words of clap.
use Rattle.std.specs.Prelude.{◌≡◌, ◌≢◌, ◌&&◌, ◌||◌, Bool, true, false, not, List, [], ◌∷◌}
use Rattle.std.specs.Prelude.{Option, Some, None, is_some, option_and_then, find, codes}
use Rattle.std.specs.Prelude.{if◌then◌else◌}
use Rattle.std.specs.Str.{bytes_eq}
use Rattle.clap.specs.Words.{App, Kinds, Row, Rule, Text, fault_of, first_of, matches_of, new_app}
use Rattle.clap.specs.Words.{new_rule, takes, with_rule}
use Rattle.clap.specs.Kinds.{or_else}
use Rattle.clap.specs.Simple.{on_top}
use Rattle.clap.specs.declared.builder.ArgAction.TheVariants.{Set}
use Rattle.clap.specs.declared.error.kind.ErrorKind.TheVariants.{ArgumentConflict}
use Rattle.clap.specs.declared.parser.matches.ValueSource.{ValueSource}
use Rattle.clap.specs.declared.parser.matches.ValueSource.TheVariants.{CommandLine}
use Rattle.cli.specs.Fault.{IsFaultAmong}
use Rattle.cli.specs.Options.{generations_option, option_number, slots_option}
use Rattle.cli.specs.declared.line_fault.LineFault.{LineFault}
use Rattle.ent_alloc.specs.Limits.{AreLimits, Limits}
use Rattle.tracecheck.specs.declared.command_line.Beginning.{Beginning}
use Rattle.tracecheck.specs.declared.command_line.Beginning.TheVariants as begin

-- the words begin after the program's name
abbrev pub top_command : App
top_command = on_top (λ top. record top { no_binary_name = true; has_version = true })
    (new_app (codes "tracecheck"))

-- the file of an image, with which a trace may begin
abbrev pub from_option : Rule
from_option = record (new_rule (codes "from")) {
  long = Some (codes "from");
  action = Some Set;
  value_names = 1;
}

abbrev pub program : App
program = with_rule (with_rule (with_rule top_command slots_option) generations_option) from_option

-- the limits are the numbers of the two options, and are in their ranges
abbrev pub AreGiven : List Row → Limits → Type 0
AreGiven rows limits = (option_number (codes "slots") rows ≡ Some limits.slots)
    × (option_number (codes "generations") rows ≡ Some limits.generations) × AreLimits limits

abbrev pub is_of_words : Option ValueSource → Bool
is_of_words (Some CommandLine) = true
is_of_words other = false

-- the words have the option, whose value isn't its default then
abbrev pub is_written : Text → List Row → Bool
is_written option rows = is_of_words (option_and_then (λ (row : Row). row.source)
    (find (λ (row : Row). bytes_eq row.id option) rows))

abbrev pub has_limits : List Row → Bool
has_limits rows = is_written (codes "slots") rows || is_written (codes "generations") rows

-- a trace begins empty, within limits, or with the allocator whose image is in the file that is
-- named, which has its own limits
abbrev pub HasBeginning : List Row → Beginning → Type 0
HasBeginning rows (begin.Limits limits) =
    (first_of (codes "from") rows ≡ None) × AreGiven rows limits
HasBeginning rows begin.Image =
    (is_some (first_of (codes "from") rows) ≡ true) × (has_limits rows ≡ false)

-- so none may be given beside it
abbrev pub has_both : List Row → Bool
has_both rows = is_some (first_of (codes "from") rows) && has_limits rows

abbrev pub both_fault : List Row → Kinds
both_fault rows = if has_both rows then ArgumentConflict ∷ [] else []

-- the beginning is that of the matches that clap finds for the words
abbrev pub AsksFor : List Text → Beginning → Type 0
AsksFor words begin = HasBeginning (matches_of program words) begin

-- the file of the image that the words name
abbrev pub image_in : List Text → Option Text
image_in words = first_of (codes "from") (matches_of program words)

-- the kinds of fault, or requests for help, that clap's rules find in the words, or that they give
-- limits beside an image
abbrev pub fault_in : List Text → Kinds
fault_in words = or_else (fault_of program words) (both_fault (matches_of program words))

-- clap takes the words, and they give no limits beside an image
abbrev pub is_taken : List Text → Bool
is_taken words = takes program words && not (has_both (matches_of program words))

-- the fault is one of these, unless memory ran out
abbrev pub IsFaultIn : List Text → LineFault → Type 0
IsFaultIn words = IsFaultAmong (fault_in words)

-- there is one
abbrev pub IsFaulty : List Text → Type 0
IsFaulty words = fault_in words ≢ []
