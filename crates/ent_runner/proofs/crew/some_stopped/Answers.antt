use Rattle.ent_runner.proofs.Common.{common_steps, arith, sym}
use Rattle.ent_runner.proofs.crew.some_stopped.Goals as goal

pub loop-worker-preserved : goal.loop-worker-preserved
loop-worker-preserved g c = grind (arith, common_steps)

pub returns-then-worker-clause-some : goal.returns-then-worker-clause-some
returns-then-worker-clause-some g c =
    λ _. (
      c.loop-worker.worker-index,
      c.worker-item.result,
      omega arith,
      sym c.worker-item.is,
      c.if-worker.true,
    )

pub returns-clause-going : goal.returns-clause-going
returns-clause-going g c = λ _ k d within. c.loop-worker.invariant k (omega arith) d
