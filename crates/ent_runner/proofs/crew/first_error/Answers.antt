use Rattle.ent_runner.proofs.Common.{rules, ◌∙◌}
use Rattle.ent_runner.proofs.Outputs.{error_here, error_later}
use Rattle.ent_runner.proofs.crew.first_error.Goals as goal

pub loop-made-preserved : goal.loop-made-preserved
loop-made-preserved g c =
    error_later _ _ _ _ c.in-Some.ensures.steps.0 c.error_of-error.ensures (search rules)
    ∙ c.loop-made.invariant

pub returns-then-is_some : goal.returns-then-is_some
returns-then-is_some g c =
    error_here _ _ _ _ c.in-Some.ensures.steps.0 c.error_of-error.ensures (search rules)
    ∙ c.loop-made.invariant
