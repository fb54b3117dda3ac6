use Rattle.std.proofs.Common.{rules}
use Rattle.ent_log.specs.Logs.{entries_of, spawned_in}
use Rattle.ent_log.proofs.Unreserved.{alive_after}
use Rattle.ent_log.proofs.sync_point.SyncPoint.begin_reserved.Goals as goal

pub returns-clause-alive : goal.returns-clause-alive
returns-clause-alive g c = alive_after c.args.entities.now.allocator c.flush.new.self.allocator
    (spawned_in (entries_of c.args.logs.now.items)) (search rules) (search rules)
