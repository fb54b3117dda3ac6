use Rattle.std.proofs.Common.{rules}
use Rattle.ent_log.proofs.Unreserved.{found_in_log, none_in_log}
use Rattle.ent_log.proofs.sync_point.unreserved.Goals as goal

pub returns-in-Some-unreserved : goal.returns-in-Some-unreserved
returns-in-Some-unreserved g c = found_in_log c.args.entities.now.allocator c.args.logs.now _ _ _ _
    c.loop-log.invariant c.in-Some.ensures.cases.0 c.unreserved.ensures _ c.in-Some-unreserved.is

pub loop-log-preserved : goal.loop-log-preserved
loop-log-preserved g c =
    none_in_log c.args.entities.now.allocator c.args.logs.now _ _ _ _ c.loop-log.invariant
    c.in-Some.ensures.cases.0 c.unreserved.ensures (search rules)
