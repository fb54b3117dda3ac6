use Rattle.spawnrun_lib.proofs.Common.{◌-◌, map, string_bytes}
use Rattle.spawnrun_lib.specs.Pieces.{AreLabels}
use Rattle.spawnrun_lib.proofs.labels.Labels.of.Given as goal

abbrev pub invariant-loop-place : goal.invariant-loop-place
invariant-loop-place l = AreLabels (map string_bytes l.names) l.pieces

abbrev pub decreases-loop-place : goal.decreases-loop-place
decreases-loop-place l = l.count - l.place
