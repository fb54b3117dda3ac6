use Rattle.ent_script.proofs.Common.{with_operations, rules, arith}
use Rattle.ent_script.proofs.Shares.{put_on}
use Rattle.ent_script.proofs.merging.both_systems.Goals as goal

pub loop-system-preserved : goal.loop-system-preserved
loop-system-preserved c = search (rules, arith, put_on with_operations)
