use Rattle.spawnrun_lib.proofs.Common.{refl, ◌∙◌, on_ok_weaker}
use Rattle.spawnrun_lib.proofs.OneCourse.{one_text}
use Rattle.spawnrun_lib.proofs.world_text.write_world.Goals as goal

pub returns-else-is_err-clause-only : goal.returns-else-is_err-clause-only
returns-else-is_err-clause-only c =
    on_ok_weaker c.append_world-written.result
    (λ p text is. p.2 ∙ rw (one_text _ c.args.show _ p.0 text p.1 is) refl)
    c.append_world-written.ensures.ok
