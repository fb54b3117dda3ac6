use Rattle.std.proofs.Common.{rules, codes, lit<, is_some, ap}
use Rattle.clap.specs.Words.{found_of}
use Rattle.cli.proofs.Numbers.{number_read}
use Rattle.cli.proofs.limits.limits_of.Goals as goal

pub unwrap-slots-requires : goal.unwrap-slots-requires
unwrap-slots-requires c =
    let read =
    number_read 32 (codes "slots") 4294967295 (found_of c.args.options.now) c.get_one.result
    (lit< tt)
    c.requires.slots c.get_one.ensures.value in
    ap is_some read.1

pub unwrap-generations-requires : goal.unwrap-generations-requires
unwrap-generations-requires c =
    let read =
    number_read 32 (codes "generations") 2147483647 (found_of c.args.options.now)
    c.get_one-2.result
    (lit< tt) c.requires.generations c.get_one-2.ensures.value in
    ap is_some read.1

pub unwrap-requires : goal.unwrap-requires
unwrap-requires c =
    let slots =
    number_read 32 (codes "slots") 4294967295 (found_of c.args.options.now) c.get_one.result
    (lit< tt)
    c.requires.slots c.get_one.ensures.value in
    let generations =
    number_read 32 (codes "generations") 2147483647 (found_of c.args.options.now)
    c.get_one-2.result
    (lit< tt) c.requires.generations c.get_one-2.ensures.value in
    search (rules, c.unwrap-slots.result, c.unwrap-generations.result, c.new.ensures.in_range.1)

pub returns-clause-slots : goal.returns-clause-slots
returns-clause-slots c =
    let slots =
    number_read 32 (codes "slots") 4294967295 (found_of c.args.options.now) c.get_one.result
    (lit< tt)
    c.requires.slots c.get_one.ensures.value in
    search (rules, c.unwrap-slots.result, c.unwrap.ensures, c.new.ensures.value)

pub returns-clause-generations : goal.returns-clause-generations
returns-clause-generations c =
    let generations =
    number_read 32 (codes "generations") 2147483647 (found_of c.args.options.now)
    c.get_one-2.result
    (lit< tt) c.requires.generations c.get_one-2.ensures.value in
    search (rules, c.unwrap-generations.result, c.unwrap.ensures, c.new.ensures.value)
