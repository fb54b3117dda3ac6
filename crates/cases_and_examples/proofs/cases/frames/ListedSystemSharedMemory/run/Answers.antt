use Rattle.std.proofs.Common.{rules}
use Rattle.ent_queue.proofs.Extending.{extends_nothing, extends_then}
use Rattle.cases_and_examples.proofs.cases.frames.ListedSystemSharedMemory.run.Goals as goal

pub loop-call-init : goal.loop-call-init
loop-call-init c = search (rules, extends_nothing)

pub loop-call-preserved : goal.loop-call-preserved
loop-call-preserved c = search (rules, extends_then)

pub returns-in_err-run-clause-extends : goal.returns-in_err-run-clause-extends
returns-in_err-run-clause-extends c = extends_then _ _ _ c.loop-call.invariant c.run.ensures
