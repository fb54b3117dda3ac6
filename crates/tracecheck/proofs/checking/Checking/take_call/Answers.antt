use Rattle.tracecheck.proofs.Taking.{asks_here, differs_here, HasTaken-call}
use Rattle.tracecheck.proofs.Common.{arith, rules}
use Rattle.tracecheck.proofs.checking.Checking.take_call.Goals as goal

pub returns-in-Ok-clause-taken : goal.returns-in-Ok-clause-taken
returns-in-Ok-clause-taken c = search (rules, HasTaken-call)

pub returns-in-Err-clause-ends : goal.returns-in-Err-clause-ends
returns-in-Err-clause-ends c = λ begin texts after text named taken. let differs =
    differs_here begin texts text
    c.args.self c.args.number (grind arith) taken after c.args.line named in
    let asks = asks_here begin texts text
    c.args.self c.args.number (grind arith) taken after c.args.line named in search
    (rules, c.end_of.ensures, differs, asks)
