use Rattle.ent_storage.proofs.Apart.{apart_none}
use Rattle.ent_storage.proofs.rows.Rows.new.Goals as goal

pub invariant_of-result : goal.invariant_of-result
invariant_of-result c = rw c.new.ensures (apart_none _)
