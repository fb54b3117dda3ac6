use Rattle.ent_alloc.proofs.Common.{rules, subst, ◌+◌, ◌-◌, ◌≤◌, length, drop, fresh, after_take}
use Rattle.ent_alloc.proofs.Common.{after_flush, IsSound, Entities, HasRowsOfLiving}
use Rattle.ent_alloc.proofs.FreshHandles.{length-fresh}
use Rattle.ent_alloc.proofs.Meaning.{allocator_is, IsAtRest, at_rest, StandFor}
use Rattle.ent_alloc.proofs.MeaningOfSteps.{length_pool}
use Rattle.ent_alloc.proofs.OneByOne.{front_no_row, front_is, many_given, ordered, one_by_one}
use Rattle.ent_alloc.proofs.OneReply.{front_within}
use Rattle.ent_alloc.proofs.entities.Entities.alloc_many.Goals.{Else-needs_flush, Else-n-left}
use Rattle.ent_alloc.proofs.entities.Entities.alloc_many.Goals.{In_ok-bring_to_life}
use Rattle.ent_alloc.proofs.entities.Entities.alloc_many.Goals as goal

-- nothing is reserved
rest : (c : Else-needs_flush)
    → IsAtRest c.self.inside.slots c.self.inside.requests c.args.self.now.allocator
rest c = search (rules, at_rest, allocator_is)

-- there are as many
enough : (c : Else-n-left)
    → IsAtRest c.self.inside.slots c.self.inside.requests c.args.self.now.allocator
    → c.args.n ≤ length c.self.inside.slots.pending
    + (c.self.inside.slots.limits.slots - c.self.inside.slots.made)
enough c rest = search (rules, length_pool, rest)

-- what is left stands for the allocator after the call
given : (c : In_ok-bring_to_life) → StandFor c.bring_to_life.new.self c.self.inside.requests
    (after_flush (after_take c.args.self.now.allocator c.args.n))
given c =
    let rest : IsAtRest _ _ _ =
    at_rest _ _ _ _ c.self.invariant (allocator_is c.self.view_is) c.needs_flush.ensures
    c.if-needs_flush.false in
    many_given _ _ _ rest c.args.n (search (rules, length_pool, rest)) c.bring_to_life.new.self
    (search (rules))

pub bring_to_life-requires-clause-room : goal.bring_to_life-requires-clause-room
bring_to_life-requires-clause-room c = search (rules, enough, rest)

pub invariant_of-self-2 : goal.invariant_of-self-2
invariant_of-self-2 c = (given (goal.at.invariant_of-self-2 c).In_ok-bring_to_life).reserved

pub returns-clause-ok : goal.returns-clause-ok
returns-clause-ok c = search (rules, given)

pub returns-clause-handles : goal.returns-clause-handles
returns-clause-handles c =
    let at = goal.at.returns-clause-handles c in
    let r = c.self.inside.slots in
    let n = c.args.n in
    let front =
    front_is r c.self.inside.requests c.args.self.now.allocator (rest at.Else-needs_flush) n
    (enough
    at.Else-n-left (rest at.Else-needs_flush)) in
    search (
      rules,
      front,
      length-fresh,
      ordered (fresh r.made (n - length r.pending)) (drop (length r.pending - n) r.pending)
          c.bring_to_life.new.out.items c.in_order.new.handles c.fresh-fresh.result
          c.bring_to_life.new.out.len,
    )

pub returns-clause-calls : goal.returns-clause-calls
returns-clause-calls c = search (rules, rest, enough, given, one_by_one)

pub returns-clause-within : goal.returns-clause-within
returns-clause-within c = search (rules, returns-clause-handles, front_within, rest)

pub returns-clause-rows_of_living : goal.returns-clause-rows_of_living
returns-clause-rows_of_living c = (invariant_of-self-2 c).rows

pub returns-clause-no_rows : goal.returns-clause-no_rows
returns-clause-no_rows c =
    let view = c.self.view_is in
    let inv = c.self.invariant in
    let none =
    front_no_row c.args.self.now c.args.n
    (subst (λ (e : Entities). IsSound e.allocator) view inv.sound)
    (subst HasRowsOfLiving view inv.rows) in
    search (rules, none, c.in_ok-bring_to_life.ensures.ok, view)
