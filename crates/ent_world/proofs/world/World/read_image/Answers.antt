use Rattle.ent_world.proofs.Common.{List, ◌++◌}
use Rattle.ent_alloc.proofs.Runs.{run-given}
use Rattle.ent_alloc.specs.Runs.{Step, IsRun, after_run, given_in_run}
use Rattle.ent_alloc.specs.Spent.{AreSpent}
use Rattle.ent_world.proofs.ImageRead.{kept_by_image}
use Rattle.ent_world.proofs.world.World.read_image.Goals as goal

pub returns-clause-given_once : goal.returns-clause-given_once
returns-clause-given_once c w given has is spent =
    kept_by_image (λ w. (steps : List Step) → IsRun w.allocator steps
    → AreSpent (after_run w.allocator steps) (given ++ given_in_run w.allocator steps))
    c.args.bytes.now c.of_image.result c.of_image.ensures.exact w has is
    (λ steps run. run-given w.allocator steps given has.world.sound run spent)
