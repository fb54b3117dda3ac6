use Rattle.spawnrun_lib.proofs.Common.{rules, IsPartitionPoint-from_clause, is_before}
use Rattle.spawnrun_lib.proofs.Rolls.{parted}
use Rattle.spawnrun_lib.proofs.roll.first_from.Goals as goal

pub returns : goal.returns
returns c =
    IsPartitionPoint-from_clause (is_before c.args.view.now c.args.birth) _ _
    c.partition_point.ensures.partitioned
    (parted c.args.view.now c.args.birth c.args.handles.now c.requires) (λ a r q k. search rules)
