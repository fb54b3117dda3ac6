use Rattle.spawnrun_lib.proofs.Common.{rules}
use Rattle.spawnrun_lib.proofs.Pieces.{some_birth, turned}
use Rattle.spawnrun_lib.proofs.head.Head.turn_to.Goals as goal

pub set_last-requires-clause-some : goal.set_last-requires-clause-some
set_last-requires-clause-some c = search (rules, some_birth)

pub returns-clause-head : goal.returns-clause-head
returns-clause-head c = search (rules, some_birth, turned)
