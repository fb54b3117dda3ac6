use Rattle.ent_total.proofs.Common.{List, ◌++◌, AreSpent}
use Rattle.ent_alloc.specs.Runs.{Step, IsRun, after_run, given_in_run}
use Rattle.ent_alloc.proofs.Runs.{run-given}
use Rattle.ent_total.proofs.ImageEnd.{refused_from_exact, kept_by_image, bounded}
use Rattle.ent_total.proofs.image.read_world.Goals as goal

pub returns-clause-refused : goal.returns-clause-refused
returns-clause-refused c =
    refused_from_exact c.args.bytes.now c.args.number c.of_image.result c.of_image.ensures.exact

pub returns-clause-bound : goal.returns-clause-bound
returns-clause-bound c =
    bounded c.args.bytes.now c.args.number c.of_image.result c.of_image.ensures.found

pub returns-clause-given_once : goal.returns-clause-given_once
returns-clause-given_once c w spawned given has fits is spent =
    kept_by_image (λ w. (steps : List Step) → IsRun w.allocator steps
    → AreSpent (after_run w.allocator steps) (given ++ given_in_run w.allocator steps))
    c.args.bytes.now c.args.number c.of_image.result c.of_image.ensures.exact w spawned has fits is
    (λ steps run. run-given w.allocator steps given has.world.sound run spent)
