use Rattle.ent_queue.proofs.Extending.{extends_then}
use Rattle.cases_and_examples.proofs.examples.game.systems.AgeSystemSharedMemory.run.Goals as goal

-- A turn adds to what earlier turns have added. The search finds that too, by the lemma that `run`
-- names, but it takes some seconds.

pub returns-in_err-age_one-clause-extends : goal.returns-in_err-age_one-clause-extends
returns-in_err-age_one-clause-extends c =
    extends_then _ _ _ c.loop-handle.invariant.extends c.age_one.ensures.extends

pub loop-handle-preserved : goal.loop-handle-preserved
loop-handle-preserved c = record {
  extends = extends_then _ _ _ c.loop-handle.invariant.extends c.age_one.ensures.extends;
  may = λ empty. c.in_ok-age_one.ensures.may (c.loop-handle.invariant.may empty);
}
