use Rattle.spawnrun_lib.proofs.CommandLineOptions.{blocks_read}
use Rattle.spawnrun_lib.proofs.Common.{found_of}
use Rattle.spawnrun_lib.proofs.task.blocks_of.Goals as goal

pub returns-clause-number : goal.returns-clause-number
returns-clause-number c =
    (blocks_read (found_of c.args.options.now) c.get_one.result c.requires c.get_one.ensures.none
    c.get_one.ensures.value).0

pub returns-clause-some : goal.returns-clause-some
returns-clause-some c =
    (blocks_read (found_of c.args.options.now) c.get_one.result c.requires c.get_one.ensures.none
    c.get_one.ensures.value).1
