use Rattle.ent_alloc.proofs.Common.{rules, ◌≡◌, ◌∙◌, slots_of, front_of}
use Rattle.ent_alloc.proofs.Meaning.{allocator_is}
use Rattle.ent_alloc.proofs.PortionPools.{front_slots, order_few, order_slots, order_is}
use Rattle.ent_alloc.proofs.entities.Entities.arrange.Goals.{After-deref}
use Rattle.ent_alloc.proofs.entities.Entities.arrange.Goals as goal

-- the slots are those of the front
are_front : (c : After-deref) → c.deref.result.now ≡ slots_of
    (front_of c.args.self.now.allocator.pool c.args.portions.now)
are_front c =
    front_slots _ _ _ _ c.args.portions.now c.self.invariant (allocator_is c.self.view_is)
    c.requires.flushed (c.deref.ensures.value ∙ c.in_ok-order.ensures)

pub set_front-requires : goal.set_front-requires
set_front-requires c = search (rules, order_few, order_slots, are_front)

pub returns-clause-ok : goal.returns-clause-ok
returns-clause-ok c = order_is _ _ c.requires.used c.requires.within _
    (are_front (goal.at.returns-clause-ok c).After-deref) _ (search (rules, c.if-count-reach.false))
    c.in_ok-set_front.ensures.ok
