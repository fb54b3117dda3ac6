use Rattle.ent_storage.proofs.Common.{arith, common_steps}
use Rattle.ent_storage.proofs.ImageWidth.{held}
use Rattle.ent_storage.proofs.rows.Rows.is_held.Goals as goal

pub returns : goal.returns
returns c = held c.args.self.now c.args.id c.dense.result.now c.dense.ensures.has c.is_empty.result
    (λ is. grind (arith, common_steps, c.is_empty.ensures, is))
    (λ is. grind (arith, common_steps, c.is_empty.ensures, is))
