use Rattle.ent_alloc.proofs.Common.{rules, ◌≡◌, ◌-◌, length, take, with_front, AreSlotsOf}
use Rattle.ent_alloc.proofs.Meaning.{allocator_is, StandFor}
use Rattle.ent_alloc.proofs.FrontPools.{enough_of, waits_of, stands_of, grown}
use Rattle.ent_alloc.proofs.entities.Entities.set_front.Goals.{After-wait_last-arg-1}
use Rattle.ent_alloc.proofs.entities.Entities.set_front.Goals.{After-wait_last}
use Rattle.ent_alloc.proofs.entities.Entities.set_front.Goals as goal

-- the slots that were made wait
grown_is : (c : After-wait_last-arg-1)
    → c.make_waiting.new.self ≡ grown c.self.inside.slots
    (length c.args.front.now - length c.self.inside.slots.pending)
grown_is c = search (rules, grown)

pub wait_last-requires-clause-few : goal.wait_last-requires-clause-few
wait_last-requires-clause-few c = search (rules, enough_of, allocator_is, grown_is)

pub wait_last-requires-clause-same : goal.wait_last-requires-clause-same
wait_last-requires-clause-same c = search (rules, waits_of, allocator_is, grown_is)

-- what is left stands for the pool with this front
left : (c : After-wait_last) → c.make_waiting.new.self
    ≡ grown c.self.inside.slots (length c.args.front.now - length c.self.inside.slots.pending)
    → (slots : AreSlotsOf (take (length c.args.front.now) c.args.self.now.allocator.pool)
    c.args.front.now)
    → StandFor c.wait_last.new.self c.self.inside.requests
    (with_front c.args.self.now.allocator slots.front)
left c grows slots = search (rules, stands_of, allocator_is)

pub invariant_of-self-2 : goal.invariant_of-self-2
invariant_of-self-2 c =
    let at = goal.at.invariant_of-self-2 c in
    (left at.After-wait_last (grown_is at.After-wait_last-arg-1) c.requires.same).reserved

pub returns : goal.returns
returns c =
    let e = c.self.inside in
    let at = goal.at.returns c in
    let is =
    c.wait_last.ensures (waits_of e.slots e.requests c.args.self.now.allocator c.args.front.now
    c.self.invariant (allocator_is c.self.view_is) c.requires.flushed c.requires.few c.requires.same
    c.make_waiting.new.self (grown_is at.After-wait_last-arg-1)) in
    search (rules, left, grown_is, is, c.in_ok-make_waiting.ensures.ok)
