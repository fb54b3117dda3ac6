use Rattle.ent_alloc.proofs.Common.{List, ◌++◌, Step, IsRun, AreSpent, after_run, given_in_run}
use Rattle.ent_alloc.proofs.ImageOf.{exact, kept_by_image, bounded}
use Rattle.ent_alloc.proofs.Runs.{run-given}
use Rattle.ent_alloc.proofs.entities.Entities.read_image.Goals as goal

pub returns-clause-given_once : goal.returns-clause-given_once
returns-clause-given_once c e given has is spent =
    kept_by_image (λ e. (steps : List Step) → IsRun e.allocator steps
    → AreSpent (after_run e.allocator steps) (given ++ given_in_run e.allocator steps))
    c.args.bytes.now c.of_image.result c.of_image.ensures.found c.of_image.ensures.has_image e has
    is (λ steps run. run-given e.allocator steps given has.sound run spent)

pub returns-clause-bound : goal.returns-clause-bound
returns-clause-bound c =
    bounded c.args.bytes.now c.of_image.result c.of_image.ensures.found c.of_image.ensures.has_image

pub returns-clause-exact : goal.returns-clause-exact
returns-clause-exact c =
    exact c.args.bytes.now c.of_image.result c.of_image.ensures.found c.of_image.ensures.has_image
    c.of_image.ensures.refused
