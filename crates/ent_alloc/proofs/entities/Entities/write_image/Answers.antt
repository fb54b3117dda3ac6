use Rattle.ent_alloc.proofs.ImageOf.{same_image}
use Rattle.ent_alloc.proofs.entities.Entities.write_image.Goals as goal

pub returns-in_err-reserve-clause-alone : goal.returns-in_err-reserve-clause-alone
returns-in_err-reserve-clause-alone c = same_image

pub returns-clause-alone : goal.returns-clause-alone
returns-clause-alone c = same_image
