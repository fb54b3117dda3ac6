use Rattle.spawnrun_lib.proofs.Common.{rules, ◌≡◌, ℕ, List, codes, true, refl, map, Some, rows_of}
use Rattle.spawnrun_lib.proofs.Common.{found_of, takes, subcommand_of, program, found_fault}
use Rattle.spawnrun_lib.proofs.Common.{only_memory}
use Rattle.spawnrun_lib.proofs.TaskOfWords.{IsProgram-names, MeetsTask-parse, none_other}
use Rattle.spawnrun_lib.proofs.TaskOfWords.{replay_asked, run_asked, run_task, subcommand_met-named}
use Rattle.spawnrun_lib.proofs.TaskOfWords.{MeetsTask}
use Rattle.spawnrun_lib.proofs.task.command_line.Given as given
use Rattle.spawnrun_lib.proofs.task.command_line.Goals.{After-unwrap}
use Rattle.spawnrun_lib.proofs.task.command_line.Goals as goal

-- what the words were parsed to meets a task, and the subcommand is the one that is named
named : (g : given.Over) (c : After-unwrap g)
    → MeetsTask (map g.S.AsStr.text c.args.words.now) c.in_ok-matches.matches
    × ((text : List ℕ) → c.unwrap.result.0.now ≡ text
    → subcommand_of program (map g.S.AsStr.text c.args.words.now)
    ≡ Some (text, rows_of (found_of c.unwrap.result.1.now)))
named g c =
    let words : List (List ℕ) = map g.S.AsStr.text c.args.words.now in
    let met : MeetsTask words c.in_ok-matches.matches = MeetsTask-parse _ words _
    (IsProgram-names _ _ c.in_ok-program.ensures refl) c.in_ok-matches.ensures.kinds
    c.in_ok-matches.ensures.matches in (
      met,
      λ text. subcommand_met-named words _ met _ _ _ text c.subcommand.ensures.name
          c.subcommand.ensures.rows
          c.unwrap.ensures,
    )

pub returns-in_err-matches-clause-refused : goal.returns-in_err-matches-clause-refused
returns-in_err-matches-clause-refused g c =
    let is = IsProgram-names _ _ c.in_ok-program.ensures refl in
    only_memory _ _ (takes program (map g.S.AsStr.text c.args.words.now) ≡ true)
    c.from_residual-in_err-matches.ensures.1
    (λ yes. c.in_err-matches.ensures.passes (is.taken _ yes))

pub returns-in_err-matches-clause-fault : goal.returns-in_err-matches-clause-fault
returns-in_err-matches-clause-fault g c =
    let is = IsProgram-names _ _ c.in_ok-program.ensures refl in
    found_fault _ _ _ c.from_residual-in_err-matches.ensures.1
    (rw is.fault at (c.in_err-matches.ensures.kinds is.free))

pub limits_of-requires : goal.limits_of-requires
limits_of-requires g c =
    let named = named g (goal.at.limits_of-requires g c).After-unwrap in
    let asked = replay_asked _ _ named.0.asked (named.1 (codes "replay") c.in-replay.is) in
    record { slots = asked.0; generations = asked.1 }

pub run_of-requires : goal.run_of-requires
run_of-requires g c =
    let named = named g (goal.at.run_of-requires g c).After-unwrap in
    let asked = run_asked _ _ named.0.asked (named.1 (codes "run") c.in-run.is) in
    record { workers = asked.0; blocks = asked.1; show = asked.2 }

pub returns-in-replay : goal.returns-in-replay
returns-in-replay g c =
    let named = named g (goal.at.returns-in-replay g c).After-unwrap in
    search (rules, named.0.no_fault, named.1 (codes "replay") c.in-replay.is, c.limits_of.ensures)

pub returns-in-run : goal.returns-in-run
returns-in-run g c =
    let named = named g (goal.at.returns-in-run g c).After-unwrap in
    search (
      rules,
      named.0.no_fault,
      run_task (map g.S.AsStr.text c.args.words.now) _ _ (named.1 (codes "run") c.in-run.is)
          c.run_of.ensures,
    )

pub unreachable-requires : goal.unreachable-requires
unreachable-requires g c = search (rules, named, none_other)
