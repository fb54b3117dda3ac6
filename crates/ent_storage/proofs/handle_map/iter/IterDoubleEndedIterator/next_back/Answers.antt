use Rattle.ent_storage.proofs.Common.{rules}
use Rattle.ent_storage.proofs.Kept.{last_occupied, last_vacant}
use Rattle.ent_storage.proofs.handle_map.iter.IterDoubleEndedIterator.next_back.Goals as goal

pub overflow_sub-self : goal.overflow_sub-self
overflow_sub-self g c =
    (last_occupied _ _ _ _ _ _ _ (rw c.in-Occupied.is at c.in-Some.ensures.steps)
    c.loop-slot.invariant).one

pub invariant_of-self : goal.invariant_of-self
invariant_of-self g c =
    (last_occupied _ _ _ _ _ _ _ (rw c.in-Occupied.is at c.in-Some.ensures.steps)
    c.loop-slot.invariant).counted

pub returns-in-Occupied-clause-steps : goal.returns-in-Occupied-clause-steps
returns-in-Occupied-clause-steps g c =
    let gone =
    last_occupied _ _ _ _ _ _ _ (rw c.in-Occupied.is at c.in-Some.ensures.steps)
    c.loop-slot.invariant in
    search (rules, gone)

pub returns-in-Occupied-clause-goes : goal.returns-in-Occupied-clause-goes
returns-in-Occupied-clause-goes g c =
    let gone =
    last_occupied _ _ _ _ _ _ _ (rw c.in-Occupied.is at c.in-Some.ensures.steps)
    c.loop-slot.invariant in
    search (rules, gone)

pub loop-slot-preserved : goal.loop-slot-preserved
loop-slot-preserved g c = last_vacant _ _ _ _ _ (rw c.in_default-slot.is at c.in-Some.ensures.steps)
    c.loop-slot.invariant
