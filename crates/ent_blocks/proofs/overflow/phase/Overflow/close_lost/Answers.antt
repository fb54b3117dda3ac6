use Rattle.ent_blocks.proofs.Common.{rules, ◌≡◌, ◌∙◌, ◌-◌, ◌∷◌, ◌++◌, ap, arith, length}
use Rattle.ent_blocks.proofs.Common.{length-map, true, All-cons, accounted, are_among, dealt}
use Rattle.ent_blocks.proofs.Common.{Caller, IsPhase, Overflow, own_blocks, past_of, past_block}
use Rattle.ent_blocks.proofs.Accounts.{few_among, unused_accounted}
use Rattle.ent_blocks.proofs.PastClosings.{own_past}
use Rattle.ent_blocks.proofs.PastEndings.{ends_laid, ends_dealt}
use Rattle.ent_blocks.proofs.PastLosing.{ClosedLost, Losing, losing, counted}
use Rattle.ent_blocks.proofs.overflow.phase.Overflow.close_lost.Goals as goal
use Rattle.ent_blocks.proofs.overflow.phase.Overflow.close_lost.Goals.{After-close_lost-entities}

-- what is known once it is closed
known : (c : After-close_lost-entities)
    → Losing c.args.self c.args.callers.items c.close_lost-entities.result.allocator
known c =
    let handed : c.take_past.new.reservers.items
    ≡ c.self.inside.dealer ∷ past_of c.args.callers.items = search rules in
    let closed : ClosedLost c.self.inside.shared c.take_past.new.reservers.items
    c.close_lost-entities.result.allocator = search rules in
    let own = rw (← c.self.view_is) at c.requires.own in
    rw (← c.self.view_is) (losing _ c.self.invariant.0 _ _ own (rw handed at closed))

before_is : (c : After-close_lost-entities) → c.dealt-before.result ≡ dealt c.args.self.blocks
before_is c =
    c.dealt-before.ensures ∙ ap dealt c.deref.ensures.value
    ∙ ap (λ (p : Overflow). dealt p.blocks) c.self.view_is

ends_are : (c : After-close_lost-entities)
    → c.account.new.all.items ++ past_block c.dealt-before.result
    (length c.close_lost-entities.result.allocator.taken - c.dealt-before.result)
    ≡ accounted c.args.self.blocks (own_blocks c.args.callers.items)
    ++ past_block (dealt c.args.self.blocks)
    (counted c.args.self c.close_lost-entities.result.allocator)
ends_are c =
    let before = before_is c in
    let first : c.account.new.all.items
    ≡ accounted c.args.self.blocks (own_blocks c.args.callers.items) = search rules in
    let given : length c.close_lost-entities.result.allocator.taken - c.dealt-before.result
    ≡ counted c.args.self c.close_lost-entities.result.allocator =
    omega (arith, before, (known c).taken) in
    λ i. first i ++ past_block (before i) (given i)

pub take_past-requires : goal.take_past-requires
take_past-requires c =
    let blocks = own_blocks c.args.callers.items in
    let among : are_among c.args.self.blocks blocks ≡ true = search rules in
    let few = few_among c.args.self.blocks blocks among in
    let callers = length-map c.args.callers.items (λ (d : Caller). d.block) in
    let dealt = ap (λ (p : Overflow). length p.blocks) c.self.view_is in
    search (rules, few, callers, dealt)

pub close_lost-entities-requires : goal.close_lost-entities-requires
close_lost-entities-requires c =
    let own = own_past _ _ (rw (← c.self.view_is) at c.requires.own) in
    search (rules, All-cons, own, c.self.invariant.0.of)

pub finish-requires : goal.finish-requires
finish-requires c =
    let at = (goal.at.finish-requires c).After-close_lost-entities in
    let phase : IsPhase c.args.self.shared c.args.self.dealer c.args.self.blocks = search rules in
    let lie = phase.lie in
    let k = known at in
    let before = before_is at in
    let ends = ends_are at in
    let blocks = own_blocks c.args.callers.items in
    let all = unused_accounted 0 c.args.self.blocks blocks lie.laid in
    search (
      rules,
      arith,
      k.reached,
      k.taken,
      k.back,
      k.within,
      before,
      lie,
      ends,
      all,
      ends_laid,
      ends_dealt,
    )

pub returns-clause-start : goal.returns-clause-start
returns-clause-start c =
    let k = known (goal.at.returns-clause-start c).After-close_lost-entities in
    search (rules, k.back)

pub returns-clause-blocks : goal.returns-clause-blocks
returns-clause-blocks c = search (rules, ends_are, before_is)

pub returns-clause-least : goal.returns-clause-least
returns-clause-least c =
    let k = known (goal.at.returns-clause-least c).After-close_lost-entities in
    search (rules, before_is, k.least)

pub returns-clause-most : goal.returns-clause-most
returns-clause-most c =
    let k = known (goal.at.returns-clause-most c).After-close_lost-entities in
    search (rules, before_is, k.most)

pub returns-clause-requested : goal.returns-clause-requested
returns-clause-requested c all_here =
    let k = known (goal.at.returns-clause-requested c).After-close_lost-entities in
    let asked = k.requested all_here in
    search (rules, before_is, asked)

pub returns-clause-given : goal.returns-clause-given
returns-clause-given c =
    let at = (goal.at.returns-clause-given c).After-close_lost-entities in
    let requested : c.finish.result.requested
    ≡ c.close_lost-entities.result.allocator.asked - dealt c.args.self.blocks =
    search (rules, before_is) in
    rw requested (known at).given

pub returns-clause-distinct : goal.returns-clause-distinct
returns-clause-distinct c =
    (known (goal.at.returns-clause-distinct c).After-close_lost-entities).distinct
