use Rattle.tracecheck.proofs.Common.{arith}
use Rattle.tracecheck.proofs.Taking.{none_here}
use Rattle.tracecheck.proofs.checking.Checking.take.Goals as goal

pub returns-in-Err-Cause-clause-ends : goal.returns-in-Err-Cause-clause-ends
returns-in-Err-Cause-clause-ends c =
    λ begin texts after taken. none_here begin texts c.args.text.now c.args.self c.in-Some.number
    (grind arith) taken after c.in-Err-Cause.cause
    (rw c.in-Err-Cause.field-0-is at c.in-Err-Cause.ensures.exact)
