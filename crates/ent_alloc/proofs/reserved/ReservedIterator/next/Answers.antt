use Rattle.ent_alloc.proofs.Common.{rules}
use Rattle.ent_alloc.proofs.Listing.{rest_to_list}
use Rattle.ent_alloc.proofs.reserved.ReservedIterator.next.Goals as goal

pub invariant_of-self : goal.invariant_of-self
invariant_of-self c =
    rest_to_list c.self.inside.records.now c.self.inside.waiting.now c.self.inside.index
    c.self.inside.index_end c.self.inside.left c.self.invariant c.in-Some.index.now
    c.in-Some.rest.now (search (rules))
