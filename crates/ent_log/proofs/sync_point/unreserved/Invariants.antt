use Rattle.std.proofs.Common.{◌≡◌, length}
use Rattle.ent_log.specs.Logs.{first_unreserved, spawned_in, entries_of}
use Rattle.ent_log.proofs.sync_point.unreserved.Given as goal

abbrev pub invariant-loop-log : goal.invariant-loop-log
invariant-loop-log g l = first_unreserved l.entities.allocator (spawned_in (entries_of l.logs))
    ≡ first_unreserved l.entities.allocator (spawned_in (entries_of l.rest))

abbrev pub decreases-loop-log : goal.decreases-loop-log
decreases-loop-log g l = length l.rest
