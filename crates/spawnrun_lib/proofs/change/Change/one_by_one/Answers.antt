use Rattle.ent_queue.proofs.Extending.{extends_then}
use Rattle.spawnrun_lib.proofs.Common.{rules, arith, append_assoc, common_steps, map-append}
use Rattle.spawnrun_lib.proofs.Common.{take_more, drop_more, take-append-drop}
use Rattle.spawnrun_lib.proofs.SystemRunning.{on_error}
use Rattle.spawnrun_lib.proofs.change.Change.one_by_one.Goals as goal

pub loop-handle-preserved : goal.loop-handle-preserved
loop-handle-preserved g c =
    grind (arith, common_steps, take_more, extends_then, append_assoc, map-append)

pub returns-in_err-on_one-clause-stopped : goal.returns-in_err-on_one-clause-stopped
returns-in_err-on_one-clause-stopped g c =
    search (
      rules,
      on_error,
      drop_more,
      take-append-drop c.loop-handle.handle-index c.args.handles.now,
      c.loop-handle.invariant.queue,
    )
