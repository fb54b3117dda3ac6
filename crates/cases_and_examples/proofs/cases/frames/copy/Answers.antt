use Rattle.std.proofs.Common.{rules}
use Rattle.ent_queue.proofs.Extending.{extends_nothing, extends_then}
use Rattle.cases_and_examples.proofs.cases.frames.copy.Goals as goal

pub loop-handle-init : goal.loop-handle-init
loop-handle-init c = search (rules, extends_nothing)

pub loop-handle-preserved : goal.loop-handle-preserved
loop-handle-preserved c = search (rules, extends_then)
