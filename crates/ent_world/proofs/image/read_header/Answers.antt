use Rattle.ent_world.proofs.Common.{rules, ◌++◌, arith, word}
use Rattle.ent_world.proofs.ImageRead.{header_is, too_short, other_magic, other_version}
use Rattle.ent_world.proofs.ImageRead.{part_missing, begins, other_letters}
use Rattle.ent_world.proofs.image.read_header.Goals as goal

pub returns-then-magic-ne-MAGIC-clause-refused : goal.returns-then-magic-ne-MAGIC-clause-refused
returns-then-magic-ne-MAGIC-clause-refused c phase part rest fits_p fits is =
    search (rules, other_magic)

pub returns-then-bytes-lt-HEADER : goal.returns-then-bytes-lt-HEADER
returns-then-bytes-lt-HEADER c =
    let first = begins c.args.bytes.now c.read_long-magic.result.1.now cc in
    search (rules, arith, first, too_short)

pub returns-then-version-ne-VERSION-clause-refused :
    goal.returns-then-version-ne-VERSION-clause-refused
returns-then-version-ne-VERSION-clause-refused c phase part rest fits_p fits is = other_version
    c.read_word-version.result.0 c.args.bytes.now c.read_word-version.result.1.now (search rules)
    c.if-version-ne-VERSION.true (cc) phase part rest is

pub returns-then-rest-len-clause-refused : goal.returns-then-rest-len-clause-refused
returns-then-rest-len-clause-refused c phase part rest fits_p fits is =
    part_missing c.read_long-phase.result.0 c.read_long-len.result.0 c.args.bytes.now
    c.read_long-len.result.1.now (search rules) (search rules) (omega (arith, c.if-rest-len.true))
    (cc) phase part rest fits_p fits is

-- ---- the first fault

pub returns-then-magic-ne-MAGIC-clause-fault : goal.returns-then-magic-ne-MAGIC-clause-fault
returns-then-magic-ne-MAGIC-clause-fault c = search (rules, other_letters)

pub returns-then-version-ne-VERSION-clause-fault : goal.returns-then-version-ne-VERSION-clause-fault
returns-then-version-ne-VERSION-clause-fault c =
    let left = c.read_word-version.result.1.now in
    let first = begins c.args.bytes.now (word c.read_word-version.result.0 ++ left) cc in
    search (rules, arith, first)

pub returns-then-rest-len-clause-fault : goal.returns-then-rest-len-clause-fault
returns-then-rest-len-clause-fault c =
    let first = begins c.args.bytes.now c.read_long-magic.result.1.now cc in
    let header =
    header_is c.read_long-phase.result.0 c.read_long-len.result.0
    c.read_long-len.result.1.now in
    search (rules, arith, first, header)
