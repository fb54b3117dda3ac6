use Rattle.ent_replay.proofs.Common.{rules, ◌≡◌, refl, sym, ap, ◌∙◌, Ok, arith, common_steps, ints}
use Rattle.ent_replay.proofs.Common.{reply_from, pool_at, on_answer, reported, machine_state}
use Rattle.ent_replay.proofs.Common.{Outcome}
use Rattle.std.specs.FinMap as finite
use Rattle.ent_replay.proofs.MachineEvents.{done, refused, answer-answered, answer-consistent}
use Rattle.ent_replay.proofs.machine.Machine.answer.Goals as goal
use Rattle.ent_replay.proofs.machine.Machine.answer.Goals.{After-reply, After-remove}

pub reply-requires : goal.reply-requires
reply-requires c =
    let at = sym c.get.ensures ∙ c.in-Some.is in
    let span =
    c.self.invariant.spans c.args.caller c.in-Some.call c.in-Some-span.span at
    c.in-Some-span.is in
    search (rules, ints, span, c.self.invariant.requests c.args.caller c.in-Some.call at)

-- the reply is what the positions tell that the call passed
told : (c : After-reply) → c.reply.result ≡ reply_from c.self.inside.entities.allocator.made
    (pool_at c.self.inside.entities.allocator c.in-Some-span.span.high) c.in-Some.call.requested
told c =
    c.reply.ensures _
    (c.self.invariant.spans c.args.caller _ _ (sym c.get.ensures ∙ c.in-Some.is)
    c.in-Some-span.is).low

pub returns-in-Err-listed : goal.returns-in-Err-listed
returns-in-Err-listed c =
    let e = c.self.inside in
    let at = (goal.at.returns-in-Err-listed c).After-reply in
    let reports =
    answer-answered e.entities.allocator e.spent _ _ (omega arith) _
    (sym c.get.ensures ∙ c.in-Some.is) _
    c.in-Some-span.is in
    refused (λ v. on_answer v c.args.caller) c.self.view_is refl (sym c.self.view_is)
    (search (rules, reports, told, c.in-Ok.is, c.in-Err-listed.ensures.memory, at))

-- nothing but the call is taken out
unchanged : (c : After-remove) → c.match-reply.self-inside ≡ c.self.inside
unchanged c = grind (arith, common_steps)

calls_are : (c : After-remove) → c.match-reply.self-inside ≡ c.self.inside
    → c.remove.new.self ≡ finite.remove c.self.inside.calls c.args.caller
calls_are c same = search (rules)

pub invariant_of-self : goal.invariant_of-self
invariant_of-self c =
    let at = (goal.at.invariant_of-self c).After-remove in
    let same = unchanged at in
    rw (calls_are at same, same)
    (answer-consistent _ _ _ _ (omega arith) _ (sym c.get.ensures ∙ c.in-Some.is) _
    c.in-Some-span.is c.self.invariant)

pub returns : goal.returns
returns c =
    let e = c.self.inside in
    let at = goal.at.returns c in
    let says = told at.After-reply in
    let same = unchanged at.After-remove in
    let outcome_is : c.match-reply.outcome ≡ reported (reply_from e.entities.allocator.made
    (pool_at e.entities.allocator c.in-Some-span.span.high) c.in-Some.call.requested) = search
    (rules, c.match-reply.branch) in
    done (λ v. on_answer v c.args.caller) c.self.view_is (ap (λ (o : Outcome). Ok o) outcome_is)
    (λ i. machine_state (same i).entities.allocator (same i).spent
    (calls_are at.After-remove same i))
    (answer-answered _ _ _ _ (omega arith) _ (sym c.get.ensures ∙ c.in-Some.is) _ c.in-Some-span.is)
