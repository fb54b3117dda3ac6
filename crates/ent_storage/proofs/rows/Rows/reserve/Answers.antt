use Rattle.ent_storage.proofs.Common.{arith}
use Rattle.ent_storage.proofs.rows.Rows.reserve.Goals as goal

pub invariant_of-self-2 : goal.invariant_of-self-2
invariant_of-self-2 c = rw c.reserve.ensures.entities (record {
  index = c.self.invariant.index;
  indexed = c.self.invariant.indexed;
  fits = omega (arith, c.self.invariant.fits, c.reserve.ensures.grows);
})
