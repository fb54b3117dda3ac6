use Rattle.spawnrun_lib.proofs.Common.{rules, kind_of}
use Rattle.spawnrun_lib.proofs.program.execute.Goals as goal

-- clap's error is of a kind that its rules find
pub returns-in-Err-Line-clause-faulty : goal.returns-in-Err-Line-clause-faulty
returns-in-Err-Line-clause-faulty g c =
    λ _. (kind_of c.in-Err-Line.error, rw c.in-Err-Line.field-0-is at c.in-Err-Line.ensures.fault)
