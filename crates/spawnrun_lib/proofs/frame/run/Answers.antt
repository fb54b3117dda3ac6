use Rattle.spawnrun_lib.proofs.FewerWorkers.{ends_with_more}
use Rattle.spawnrun_lib.proofs.frame.run.Goals as goal

-- the workers beyond those that ran had nothing to do
pub returns-in-Ok-clause-went : goal.returns-in-Ok-clause-went
returns-in-Ok-clause-went g c =
    let ends = rw (c.deref.ensures.value, c.in_ok-runnable.ensures) at c.in-Ok.ensures.ok in (
      c.in-Ok.report.queues.items,
      ends_with_more _ _ c.frame_workers-workers.ensures.few _ _ _ _ _ _ _ ends,
    )
