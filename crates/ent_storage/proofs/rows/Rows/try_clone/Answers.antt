use Rattle.ent_storage.proofs.Common.{arith}
use Rattle.ent_storage.proofs.rows.Rows.try_clone.Goals as goal

pub invariant_of-result : goal.invariant_of-result
invariant_of-result c = rw c.in_ok-try_clone.ensures.entities (record {
  index = c.self.invariant.index;
  indexed = c.self.invariant.indexed;
  fits = omega (arith, c.self.invariant.fits, c.in_ok-try_clone.ensures.room);
})
