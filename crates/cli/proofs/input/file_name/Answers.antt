use Rattle.std.proofs.Common.{rules}
use Rattle.std.specs.Fn.{FnReturnsAt}
use Rattle.cli.proofs.Naming.{named_last, no_option, unknown_before}
use Rattle.cli.proofs.input.file_name.Goals as goal

pub returns-in_err-is_line-2-clause-memory : goal.returns-in_err-is_line-2-clause-memory
returns-in_err-is_line-2-clause-memory g c =
    let split = c.in-Some.ensures.cases in
    search (
      rules,
      unknown_before (FnReturnsAt g.F.Fn c.args.is_line) c.args.words.now c.in-Some.before.now
          c.in-Some.name.now,
    )

pub returns-clause-named : goal.returns-clause-named
returns-clause-named g c = let split = c.in-Some.ensures.cases in
    search (rules, named_last, no_option)
