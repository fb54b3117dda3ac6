use Rattle.ent_alloc.proofs.Common.{rules}
use Rattle.ent_alloc.proofs.ImageHeader.{too_short}
use Rattle.ent_alloc.proofs.ImageFront.{magic_fault, other_letters}
use Rattle.ent_alloc.proofs.image.read_header.Goals as goal

pub returns-then-bytes-lt-HEADER-clause-refused : goal.returns-then-bytes-lt-HEADER-clause-refused
returns-then-bytes-lt-HEADER-clause-refused c = too_short c.args.bytes.now c.if-bytes-lt-HEADER.true

-- ---- the first fault

pub returns-then-magic-ne-MAGIC-clause-fault : goal.returns-then-magic-ne-MAGIC-clause-fault
returns-then-magic-ne-MAGIC-clause-fault c = search (rules, magic_fault, other_letters)
