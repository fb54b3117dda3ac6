use Rattle.ent_alloc.proofs.Common.{rules, numbers_bytes}
use Rattle.ent_alloc.proofs.ImageHeader.{header_is, letters, appended_8}
use Rattle.ent_alloc.proofs.image.write_header.Goals as goal

pub returns-clause-items : goal.returns-clause-items
unfolding numbers_bytes
returns-clause-items c = search (rules, appended_8, letters, header_is)
