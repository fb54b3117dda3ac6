use Rattle.spawnrun_lib.proofs.Common.{rules, arith}
use Rattle.spawnrun_lib.proofs.SystemRunning.{none_issued}
use Rattle.spawnrun_lib.proofs.change.Change.on_each.Goals as goal

pub returns-in-Insert-clause-stopped : goal.returns-in-Insert-clause-stopped
returns-in-Insert-clause-stopped g c =
    none_issued c.args.handles.now _ _ _ c.insert_each.result (search (rules, arith))
    c.insert_each.ensures.err
