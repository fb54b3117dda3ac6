use Rattle.std.proofs.Common.{refl}
use Rattle.std.proofs.lemmas.Result.{IfOk-weaker}
use Rattle.cases_and_examples.proofs.examples.frames.reap.Goals as goal

-- The reaper is the first system, and its queue is one that it may issue.
pub returns-clause-few : goal.returns-clause-few
returns-clause-few g c =
    IfOk-weaker c.run_frame.result _ _ (λ report ends. ends.frame.each_system 0 _ refl)
    c.run_frame.ensures.ok
