use Rattle.spawnrun_lib.proofs.Common.{rules}
use Rattle.spawnrun_lib.proofs.Pieces.{no_labels}
use Rattle.spawnrun_lib.proofs.labels.Labels.of.Goals as goal

pub loop-place-init : goal.loop-place-init
loop-place-init c = search (rules, no_labels)
