use Rattle.ent_queue.proofs.Extending.{extends_then}
use Rattle.spawnrun_lib.proofs.Common.{rules, drop_all}
use Rattle.spawnrun_lib.proofs.SystemRunning.{has_gone_on, has_ended}
use Rattle.spawnrun_lib.proofs.issuing.issue_all.Goals as goal

pub loop-operation-preserved : goal.loop-operation-preserved
loop-operation-preserved g c = search (rules, extends_then, has_gone_on)

pub returns-clause-may : goal.returns-clause-may
returns-clause-may g c empty = search (rules, drop_all, has_ended)
