use Rattle.ent_alloc.proofs.Common.{rules}
use Rattle.ent_alloc.proofs.Meaning.{allocator_is}
use Rattle.ent_alloc.proofs.MeaningOfSteps.{cancelled_reserved}
use Rattle.ent_alloc.proofs.requesting.cancel_requests.Goals as goal

pub invariant_of-entities : goal.invariant_of-entities
invariant_of-entities c = search (rules, cancelled_reserved, allocator_is)
