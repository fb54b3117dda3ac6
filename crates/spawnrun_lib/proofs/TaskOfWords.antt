-- From the program's words to its task: the subcommand that clap finds, and the faults.
use Rattle.spawnrun_lib.proofs.Common.{rules, ◌≡◌, ◌∙◌, true, false, List, [], IfSome, refl, sym}
use Rattle.spawnrun_lib.proofs.Common.{ap, codes, Option, Some, None, option_map, slice_index_or}
use Rattle.spawnrun_lib.proofs.Common.{HasMatchesOf, is_simple, Row, Shape, Text, built, fault_of}
use Rattle.spawnrun_lib.proofs.Common.{is_simple_and_free, subcommand_of, rows_of}
use Rattle.spawnrun_lib.proofs.Common.{subcommand_rows_of, App, found_of, takes, subcommand_name_of}
use Rattle.spawnrun_lib.proofs.Common.{ArgMatches, new_shape, entered, nothing_held, stop_after}
use Rattle.spawnrun_lib.proofs.Common.{texts, entered_fault, clap_on_literals, built_takes}
use Rattle.spawnrun_lib.proofs.Common.{entered_passes, HasNumber, AsksFor, HasRun, HasShow}
use Rattle.spawnrun_lib.proofs.Common.{MayHaveBlocks, program, program_of, references_to, shown}
use Rattle.spawnrun_lib.proofs.Common.{Task, Bor}
use Rattle.clap.specs.Simple.{names_of}
use Rattle.spawnrun_lib.proofs.MovedNames.{level_fault-moved, level_passes-moved, rows_after-moved}
use Rattle.spawnrun_lib.proofs.CommandLineOptions.{replay_shape, IsAsked, IsAsked-no_fault}

-- the name of the subcommand that a parse met
pub subcommand_name-rows : (m : ArgMatches)
    → subcommand_name_of m ≡ option_map (λ p. p.0) (subcommand_rows_of m)
subcommand_name-rows m = search rules

-- ---- where the names stand in memory

abbrev TextRefs : Type 0
TextRefs = Bor (List (Bor Text))

abbrev run_shape_of : TextRefs → Shape
run_shape_of names = slice_index_or (built (program_of names)).subs 1 (new_shape [])

entered-moved : (names : TextRefs) (stop : Option (Text × List Text))
    → entered (built (program_of (references_to (texts names.now)))) stop
    ≡ entered (built (program_of names)) stop
entered-moved names it =
    search (rules, rows_after-moved (run_shape_of names).rules [], replay_shape)

entered_fault-moved : (names : TextRefs) (stop : Option (Text × List Text))
    → entered_fault (built (program_of (references_to (texts names.now)))) stop
    ≡ entered_fault (built (program_of names)) stop
entered_fault-moved names None = refl
entered_fault-moved names (Some p) =
    search
    (rules, level_fault-moved (run_shape_of names) [] nothing_held p.1 false [], replay_shape)

fault_of-moved : (names : TextRefs) (words : List Text)
    → fault_of (program_of (references_to (texts names.now))) words
    ≡ fault_of (program_of names) words
fault_of-moved names words = search (rules, entered-moved, entered_fault-moved)

entered_passes-moved : (names : TextRefs) (stop : Option (Text × List Text))
    → entered_passes (built (program_of (references_to (texts names.now)))) stop
    ≡ entered_passes (built (program_of names)) stop
entered_passes-moved names None = refl
entered_passes-moved names (Some p) =
    search (rules, level_passes-moved (run_shape_of names) [] nothing_held p.1 false, replay_shape)

built_takes-moved : (names : TextRefs) (words : List Text)
    → built_takes (built (program_of (references_to (texts names.now)))) nothing_held words
    ≡ built_takes (built (program_of names)) nothing_held words
built_takes-moved names words = search (rules, entered_passes-moved, entered-moved)

-- the program's command, wherever the names of `--show` stand
pub record IsProgram (app : App) : Type 0 where
  pub simple : is_simple app ≡ true
  pub free : is_simple_and_free app ≡ true
  pub fault : (words : List Text) → fault_of app words ≡ fault_of program words
  pub subcommand : (words : List Text) → subcommand_of app words ≡ subcommand_of program words
  pub taken : (words : List Text) → takes program words ≡ true → takes app words ≡ true

program_of-takes : (names : TextRefs) (words : List Text)
    → takes (program_of names) words ≡ built_takes (built (program_of names)) nothing_held words
program_of-takes names words = search rules

pub IsProgram-names : (app : App) (names : TextRefs) → app ≡ program_of names
    → texts names.now ≡ shown → IsProgram app
unfolding clap_on_literals
IsProgram-names app names is same = rw is (record {
  simple = refl;
  free = refl;
  fault = λ words. rw same at (sym (fault_of-moved names words));
  subcommand =
      λ words.
      rw same at
      (sym
      (entered-moved names
      (stop_after (built (program_of names)).top.rules (names_of (built (program_of names)))
      words)));
  taken =
      λ words yes. rw same at (program_of-takes names words ∙ sym (built_takes-moved names words)
      ∙ sym (program_of-takes (references_to (texts names.now)) words)) ∙ yes;
})

-- what a parse by the program's command met
pub record MeetsTask (words : List Text) (m : ArgMatches) : Type 0 where
  pub no_fault : fault_of program words ≡ []
  pub asked : IsAsked (subcommand_of program words)
  pub rows : subcommand_rows_of m ≡ subcommand_of program words
  pub name : subcommand_name_of m ≡ option_map (λ p. p.0) (subcommand_of program words)

pub MeetsTask-parse : (app : App) (words : List Text) (m : ArgMatches) → IsProgram app
    → (is_simple_and_free app ≡ true → fault_of app words ≡ []) → HasMatchesOf app words m
    → MeetsTask words m
MeetsTask-parse app words m is faults matches =
    let no_fault : fault_of program words ≡ [] = sym (is.fault words) ∙ faults is.free in
    let met = (matches is.simple).1 ∙ is.subcommand words in
    search (rules, IsAsked-no_fault, subcommand_name-rows m ∙ ap (option_map (λ p. p.0)) met)

-- the subcommand that clap's getter returns is the one that the words name
pub subcommand_met-named : (words : List Text) (m : ArgMatches) → MeetsTask words m
    → (r : Option (Bor Text × Bor ArgMatches)) (name : Bor Text) (options : Bor ArgMatches)
    (text : Text) → option_map (λ p. p.0.now) r ≡ subcommand_name_of m
    → option_map (λ p. rows_of (found_of p.1.now)) r ≡ option_map (λ p. p.1) (subcommand_rows_of m)
    → r ≡ Some (name, options) → name.now ≡ text
    → subcommand_of program words ≡ Some (text, rows_of (found_of options.now))
subcommand_met-named words m met r name options text named rowed is spelled = search rules

-- and so are its options
pub replay_asked : (found : Option (Text × List Row)) (rows : List Row) → IsAsked found
    → found ≡ Some (codes "replay", rows) → HasNumber (codes "slots") 4294967295 rows
    × HasNumber (codes "generations") 2147483647 rows
replay_asked found rows it same = search rules

pub run_asked : (found : Option (Text × List Row)) (rows : List Row) → IsAsked found
    → found ≡ Some (codes "run", rows)
    → HasNumber (codes "workers") 64 rows × MayHaveBlocks rows × HasShow rows
run_asked found rows it same = search rules

-- what the options of a run ask for
pub run_task : (words : List Text) (rows : List Row) (task : Task)
    → subcommand_of program words ≡ Some (codes "run", rows) → HasRun rows task → AsksFor words task
run_task words rows it is has = search rules

-- there is no third subcommand
pub none_other : (found : Option (Text × List Row)) → IsAsked found
    → (r : Option (Bor Text × Bor ArgMatches))
    → option_map (λ p. p.0.now) r ≡ option_map (λ p. p.0) found
    → IfSome r (λ p. (p.0.now ≡ codes "replay" → ⊥) × (p.0.now ≡ codes "run" → ⊥)) → ⊥
none_other found it it2 named other = search rules
