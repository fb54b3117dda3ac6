use Rattle.std.proofs.Common.{◌≡◌, length}
use Rattle.ent_log.specs.Logs.{first_unreserved, spawned_in}
use Rattle.ent_log.proofs.log.Log.unreserved.Given as goal

abbrev pub invariant-loop-entry : goal.invariant-loop-entry
invariant-loop-entry g l = first_unreserved l.entities.allocator (spawned_in l.self)
    ≡ first_unreserved l.entities.allocator (spawned_in l.rest)

abbrev pub decreases-loop-entry : goal.decreases-loop-entry
decreases-loop-entry g l = length l.rest
