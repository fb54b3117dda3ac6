use Rattle.spawnrun_lib.proofs.Common.{rules, codes, arith, lit<, is_some, ap, found_of}
use Rattle.spawnrun_lib.proofs.Common.{number_read}
use Rattle.spawnrun_lib.proofs.task.workers_of.Goals as goal

pub unwrap-requires : goal.unwrap-requires
unwrap-requires c =
    ap is_some
    (number_read 64 (codes "workers") 64 (found_of c.args.options.now) c.get_one.result (lit< tt)
    c.requires c.get_one.ensures.value).1

pub returns : goal.returns
returns c =
    let read =
    number_read 64 (codes "workers") 64 (found_of c.args.options.now) c.get_one.result (lit< tt)
    c.requires
    c.get_one.ensures.value in
    search (rules, arith, read)
