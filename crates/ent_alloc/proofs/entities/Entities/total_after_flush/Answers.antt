use Rattle.ent_alloc.proofs.Common.{rules}
use Rattle.ent_alloc.proofs.Meaning.{allocator_is}
use Rattle.ent_alloc.proofs.MeaningOfSteps.{made_at_flush_is}
use Rattle.ent_alloc.proofs.entities.Entities.total_after_flush.Goals as goal

pub returns : goal.returns
returns c = search (rules, allocator_is, made_at_flush_is)
