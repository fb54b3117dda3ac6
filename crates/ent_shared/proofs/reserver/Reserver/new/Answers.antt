use Rattle.ent_shared.proofs.Common.{w64, to_z-of_z, quota}
use Rattle.ent_shared.proofs.reserver.Reserver.new.Goals as goal

pub invariant_of-result : goal.invariant_of-result
unfolding quota
invariant_of-result c = rw (to_z-of_z w64 c.args.floor c.ranges.floor) c.requires
