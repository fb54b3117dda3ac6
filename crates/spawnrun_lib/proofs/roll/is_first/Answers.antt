use Rattle.spawnrun_lib.proofs.Common.{rules, arith}
use Rattle.spawnrun_lib.proofs.Rolls.{first_of_all, first_behind}
use Rattle.spawnrun_lib.proofs.roll.is_first.Goals as goal

pub returns-then-index-eq0 : goal.returns-then-index-eq0
returns-then-index-eq0 c is = search (rules, arith, first_of_all)

pub returns-else-index-eq0 : goal.returns-else-index-eq0
returns-else-index-eq0 c is = search (rules, arith, first_behind)
