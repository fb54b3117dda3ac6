-- What the words of a subcommand give: the values of its options.
use Rattle.spawnrun_lib.proofs.Common.{rules, ◌≡◌, ℕ, Bool, true, false, List, [], ◌∷◌, cond, refl}
use Rattle.spawnrun_lib.proofs.Common.{◌<◌, lit<, inl, inr, codes, Option, Some, None, is_some}
use Rattle.spawnrun_lib.proofs.Common.{IfSome, option_map, ExplainsUnsignedError}
use Rattle.spawnrun_lib.proofs.Common.{HasUnsignedDigitsIfOk, ParsesUnsigned, ParseIntError}
use Rattle.spawnrun_lib.proofs.Common.{ReadsOne, one_text, one_text-rows, first_value-rows}
use Rattle.spawnrun_lib.proofs.Common.{option_number, HasNumber, generations_option, number_option}
use Rattle.spawnrun_lib.proofs.Common.{slots_option, number_read, option_map_or, AllByRecursion}
use Rattle.spawnrun_lib.proofs.Common.{slice_index_or, Row, Rule, Shape, Text, built, fault_of}
use Rattle.spawnrun_lib.proofs.Common.{subcommand_of, rows_of, first_of, first_value, Found}
use Rattle.spawnrun_lib.proofs.Common.{new_shape, entered, filled, help_rule, label_of, rows_at}
use Rattle.spawnrun_lib.proofs.Common.{finished, walk, answers_to, nothing_held, stop_after}
use Rattle.spawnrun_lib.proofs.Common.{check_fault, entered_fault, level_fault, accepts-Accepts}
use Rattle.spawnrun_lib.proofs.Common.{Show, Births, Handles, bytes_eq, HasShow, MayHaveBlocks}
use Rattle.spawnrun_lib.proofs.Common.{blocks_option, most_handles, optional_number, program}
use Rattle.spawnrun_lib.proofs.Common.{references_to, show_option, show_text, shown, workers_option}
use Rattle.spawnrun_lib.proofs.Common.{Result, Bor, ◌∙◌, App, app_of, rule_of, with_rule, AddsArg}
use Rattle.spawnrun_lib.proofs.Common.{Arg}
use Rattle.clap.specs.Simple.{names_of}
use Rattle.spawnrun_lib.proofs.ParsedOptions.{none_of, Fits, HasValue, MayHaveValue}
use Rattle.spawnrun_lib.proofs.ParsedOptions.{option-has_value, optional-has_value}
use Rattle.clap.specs.declared.builder.Command.{Command}

-- the options as building leaves them
abbrev replay_rules : List Rule
replay_rules = filled slots_option ∷ filled generations_option ∷ filled help_rule ∷ []

abbrev show_rule : Rule
show_rule = filled (show_option (references_to shown))

abbrev blocks_rule : Rule
blocks_rule = filled blocks_option

abbrev run_rules : List Rule
run_rules = filled workers_option ∷ blocks_rule ∷ show_rule ∷ filled help_rule ∷ []

run-fits : AllByRecursion (Fits run_rules) run_rules
run-fits = search rules

abbrev pub replay_shape : Shape
replay_shape = slice_index_or (built program).subs 0 (new_shape [])

abbrev pub run_shape : Shape
run_shape = slice_index_or (built program).subs 1 (new_shape [])

number_from : (option : Text) (most : ℕ) (default : Text) (rows : List Row)
    → HasValue (filled (number_option option most default)) rows → HasNumber option most rows
number_from option most default rows value = search (rules, accepts-Accepts)

optional_from : (option : Text) (most : ℕ) (rows : List Row)
    → HasValue (filled (optional_number option most)) rows → HasNumber option most rows
optional_from option most rows value = search (rules, accepts-Accepts)

blocks_from : (rows : List Row) → MayHaveValue blocks_rule rows → MayHaveBlocks rows
blocks_from rows it = search (rules, optional_from)

show_from : (rows : List Row) → HasValue show_rule rows → HasShow rows
show_from rows value = search rules

-- what the words name: a subcommand, whose options have values in their ranges
pub data IsAsked (found : Option (Text × List Row)) : Type 0 where
  asks_replay : (rows : List Row) → found ≡ Some (codes "replay", rows)
      → HasNumber (codes "slots") 4294967295 rows
      → HasNumber (codes "generations") 2147483647 rows → IsAsked found
  asks_run : (rows : List Row) → found ≡ Some (codes "run", rows) → HasNumber (codes "workers") 64
      rows → MayHaveBlocks rows → HasShow rows → IsAsked found

replay_options : (words : List Text) → level_fault replay_shape [] nothing_held words false [] ≡ []
    → IsAsked (Some (rows_at replay_shape words))
replay_options words e =
    let value = option-has_value replay_rules (search rules) replay_shape words e in
    asks_replay _ refl
    (number_from _ _ _ _ (value (filled slots_option) refl (search rules) (inl refl)))
    (number_from _ _ _ _ (value (filled generations_option) refl (search rules) (inr (inl refl))))

run_options : (words : List Text) → level_fault run_shape [] nothing_held words false [] ≡ []
    → IsAsked (Some (rows_at run_shape words))
run_options words e =
    let value = option-has_value run_rules run-fits run_shape words e in
    asks_run _ refl
    (number_from _ _ _ _ (value (filled workers_option) refl (search rules) (inl refl)))
    (blocks_from _ (optional-has_value run_rules run-fits run_shape words e blocks_rule refl))
    (show_from _ (value show_rule refl (search rules) (inr (inr (inl refl)))))

-- a subcommand is required, and there are two
stopped : (stop : Option (Text × List Text)) (rows : List Row)
    → entered_fault (built program) stop ≡ []
    → check_fault (built program).top rows (is_some (entered (built program) stop)) ≡ []
    → IsAsked (entered (built program) stop)
stopped None rows below check = cc
stopped (Some p) rows below check =
    go (answers_to p.0 (label_of replay_shape)) (answers_to p.0 (label_of run_shape))
    below check
  where
    met : Bool → Bool → Option Shape
    met is_replay is_run = cond is_replay (Some replay_shape) (cond is_run (Some run_shape) None)

    go : (is_replay is_run : Bool) → option_map_or (λ s. level_fault s [] nothing_held p.1 false [])
        (met is_replay is_run) [] ≡ [] → check_fault (built program).top rows
        (is_some (option_map (λ s. rows_at s p.1) (met is_replay is_run))) ≡ []
        → IsAsked (option_map (λ s. rows_at s p.1) (met is_replay is_run))
    go true is_run below check = replay_options p.1 below
    go false true below check = run_options p.1 below
    go false false below check = cc

pub IsAsked-no_fault : (words : List Text) → fault_of program words ≡ []
    → IsAsked (subcommand_of program words)
IsAsked-no_fault words e =
    let stop = stop_after (built program).top.rules (names_of (built program)) words in
    let end = (walk (built program).top.rules (names_of (built program)) nothing_held words).held in
    let walked = none_of _ _ e in
    let below = none_of (entered_fault (built program) stop) _ walked.1 in
    let settled = none_of _ _ below.1 in
    stopped stop (finished (built program).top.rules end) below.0 (none_of _ _ settled.1).1

-- the text that the getter of `--show` reads
pub show_read : (found : Found) (r : Option (Bor Text)) → HasShow (rows_of found)
    → option_map (λ s. s.now) r ≡ first_value found (codes "show")
    → (text : Bor Text) × (show : Show) × (r ≡ Some text) × (text.now ≡ show_text show)
    × (first_of (codes "show") (rows_of found) ≡ Some (show_text show))
show_read found r has reads = search (rules, first_value-rows)

-- the test that tells the two values of `--show` apart
pub shows_by : (found : Found) (r : Option (Bor Text)) (text : Bor Text) (test : Bool)
    → HasShow (rows_of found) → option_map (λ s. s.now) r ≡ first_value found (codes "show")
    → r ≡ Some text → bytes_eq text.now (codes "handles") ≡ test
    → first_of (codes "show") (rows_of found) ≡ Some (show_text (cond test Handles Births))
shows_by found r text test has reads is tested = let read = show_read found r has reads in
    search rules

-- what `FromStr` promises of a number of 32 bits
abbrev number_gives : Text → Result ℕ ParseIntError → Type 0
number_gives text r =
    ParsesUnsigned 32 10 text r × ExplainsUnsignedError 10 text r × HasUnsignedDigitsIfOk text r

-- the number that the getter of `--blocks` reads, if there is one
pub blocks_read : (found : Found) (r : Option ℕ) → MayHaveBlocks (rows_of found)
    → (one_text found (codes "blocks") ≡ None → r ≡ None)
    → ((text : Text) → one_text found (codes "blocks") ≡ Some text → ReadsOne number_gives text r)
    → (option_number (codes "blocks") (rows_of found) ≡ r) × IfSome r (λ size. 0 < size)
blocks_read found r it none reads =
    search (rules, one_text-rows, number_read 32 (codes "blocks") most_handles found r (lit< tt))

-- ---- a command of clap's with one more option, as the program's words have it

pub with_option : {old new : Command} {option : Arg} {app : App} {rule : Rule}
    → AddsArg old option new → option.global ≡ false → app_of old ≡ app → rule_of option ≡ rule
    → app_of new ≡ with_rule app rule
with_option adds own is rule_is = adds.shape own ∙ (λ i. with_rule (is i) (rule_is i))
