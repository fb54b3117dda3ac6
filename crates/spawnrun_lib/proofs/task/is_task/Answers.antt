use Rattle.spawnrun_lib.proofs.Common.{kind_of}
use Rattle.spawnrun_lib.proofs.task.is_task.Goals as goal

-- clap's error is of a kind that its rules find
pub returns-in-Err-Line-clause-no : goal.returns-in-Err-Line-clause-no
returns-in-Err-Line-clause-no g c =
    λ _.
    (kind_of c.in-Err-Line.field-0-0, rw c.in-Err-Line.field-0-is at c.in-Err-Line.ensures.fault)
