use Rattle.ent_queue.proofs.Extending.{extends_then}
use Rattle.cases_and_examples.proofs.examples.meadow.GrowSystemSharedMemory.run.Goals as goal

-- The insert follows what earlier turns have added. The search finds that too, by the lemma that
-- `run` names, but it takes some seconds.

pub returns-in_err-insert-clause-extends : goal.returns-in_err-insert-clause-extends
returns-in_err-insert-clause-extends c =
    extends_then _ _ _ c.loop-plant.invariant c.insert-in-Some-get.ensures.extends

pub loop-plant-preserved-in_ok-insert : goal.loop-plant-preserved-in_ok-insert
loop-plant-preserved-in_ok-insert c =
    extends_then _ _ _ c.loop-plant.invariant c.insert-in-Some-get.ensures.extends

pub loop-plant-preserved-in_ok-insert-2 : goal.loop-plant-preserved-in_ok-insert-2
loop-plant-preserved-in_ok-insert-2 c =
    extends_then _ _ _ c.loop-plant.invariant c.insert-in-Some-get.ensures.extends
