use Rattle.ent_storage.proofs.Common.{common_steps, arith, append_assoc}
use Rattle.ent_storage.proofs.ImageValues.{values_more, below_more}
use Rattle.ent_storage.proofs.rows.Rows.write_values.Goals as goal

pub loop-number-preserved : goal.loop-number-preserved
loop-number-preserved c = grind (arith, common_steps, values_more, below_more, append_assoc)
