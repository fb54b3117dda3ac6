use Rattle.ent_blocks.proofs.Common.{rules, sym, ◌≡◌, ◌∙◌, ◌-◌, ◌∷◌, ◌++◌, ap, arith, length, map}
use Rattle.ent_blocks.proofs.Common.{All-cons, Caller, are_among, given_in, length-map, true, dealt}
use Rattle.ent_blocks.proofs.Common.{unused, records_of, IsPhase}
use Rattle.ent_blocks.proofs.Common.{Overflow, own_blocks, past_of, past_history, past_block}
use Rattle.ent_blocks.proofs.Accounts.{all_accounted, all_here, unused_accounted}
use Rattle.ent_blocks.proofs.PastClosings.{Closed, Ending, own_past, ending}
use Rattle.ent_blocks.proofs.PastEndings.{ends_laid, ends_dealt}
use Rattle.ent_blocks.proofs.overflow.phase.Overflow.close.Goals as goal
use Rattle.ent_blocks.proofs.overflow.phase.Overflow.close.Goals.{After-close-entities}

-- what is known once it is closed
known : (c : After-close-entities)
    → Ending c.args.self c.args.callers.items c.close-entities.result.allocator
known c =
    let handed : c.take_past.new.reservers.items
    ≡ c.self.inside.dealer ∷ past_of c.args.callers.items =
    search rules in
    let closed : Closed c.self.inside.shared.start (records_of c.take_past.new.reservers.items)
    c.close-entities.result.allocator = search rules in
    rw (← c.self.view_is)
    (ending _ _ _ c.self.invariant.0 (rw (← c.self.view_is) at c.requires.own)
    (rw handed at closed))

before_is : (c : After-close-entities) → c.dealt-before.result ≡ dealt c.args.self.blocks
before_is c = c.dealt-before.ensures ∙ ap dealt c.deref.ensures.value
    ∙ ap (λ (p : Overflow). dealt p.blocks) c.self.view_is

all_are : (c : After-close-entities)
    → map unused (own_blocks c.args.callers.items) ≡ c.args.self.blocks
all_are c =
    let blocks = own_blocks c.args.callers.items in
    let among : are_among c.args.self.blocks blocks ≡ true = c.requires.among in
    let callers = length-map c.args.callers.items (λ (d : Caller). d.block) in
    let here = all_accounted c.args.self.blocks blocks among (callers ∙ c.requires.all) in
    let phase : IsPhase c.args.self.shared c.args.self.dealer c.args.self.blocks = search rules in
    ap (map unused) (sym here) ∙ unused_accounted 0 c.args.self.blocks blocks phase.lie.laid

ends_are : (c : After-close-entities)
    → c.account.new.all.items ++ past_block c.dealt-before.result
    (length c.close-entities.result.allocator.taken - c.dealt-before.result)
    ≡ own_blocks c.args.callers.items
    ++ past_block (dealt c.args.self.blocks) (length (given_in (past_history c.args.callers.items)))
ends_are c =
    let before = before_is c in
    let here = all_here c.args.self.blocks (own_blocks c.args.callers.items) (all_are c) in
    let first : c.account.new.all.items ≡ own_blocks c.args.callers.items = search (rules, here) in
    let given : length c.close-entities.result.allocator.taken - c.dealt-before.result
    ≡ length (given_in (past_history c.args.callers.items)) =
    omega (arith, before, (known c).taken) in
    λ i. first i ++ past_block (before i) (given i)

pub take_past-requires : goal.take_past-requires
take_past-requires c =
    let dealt = ap (λ (p : Overflow). length p.blocks) c.self.view_is in
    search (rules, dealt)

pub close-entities-requires-clause-own : goal.close-entities-requires-clause-own
close-entities-requires-clause-own c =
    let own = own_past _ _ (rw (← c.self.view_is) at c.requires.own) in
    search (rules, All-cons, own, c.self.invariant.0.of)

pub finish-requires : goal.finish-requires
finish-requires c =
    let at = (goal.at.finish-requires c).After-close-entities in
    let phase : IsPhase c.args.self.shared c.args.self.dealer c.args.self.blocks = search rules in
    let lie = phase.lie in
    let k = known at in
    let before = before_is at in
    let ends = ends_are at in
    let all = all_are at in
    search
    (rules, arith, k.asked, k.taken, k.back, k.within, before, lie, ends, ends_laid, ends_dealt)

pub returns-clause-all : goal.returns-clause-all
returns-clause-all c = all_are (goal.at.returns-clause-all c).After-close-entities

pub returns-clause-start : goal.returns-clause-start
returns-clause-start c =
    let k = known (goal.at.returns-clause-start c).After-close-entities in search (rules, k.back)

pub returns-clause-blocks : goal.returns-clause-blocks
returns-clause-blocks c = search (rules, ends_are)

pub returns-clause-handles : goal.returns-clause-handles
returns-clause-handles c = (known (goal.at.returns-clause-handles c).After-close-entities).handles

pub returns-clause-legal : goal.returns-clause-legal
returns-clause-legal c = search (rules, known)

pub returns-clause-in_order : goal.returns-clause-in_order
returns-clause-in_order c =
    (known (goal.at.returns-clause-in_order c).After-close-entities).in_order

pub returns-clause-falls : goal.returns-clause-falls
returns-clause-falls c = (known (goal.at.returns-clause-falls c).After-close-entities).falls

pub returns-clause-requested : goal.returns-clause-requested
returns-clause-requested c =
    let k = known (goal.at.returns-clause-requested c).After-close-entities in
    search (rules, before_is)

pub returns-clause-alone : goal.returns-clause-alone
returns-clause-alone c =
    let is = returns-clause-requested c in
    let k = known (goal.at.returns-clause-alone c).After-close-entities in
    search rules
