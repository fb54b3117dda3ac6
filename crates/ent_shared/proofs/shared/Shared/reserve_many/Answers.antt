use Rattle.ent_shared.proofs.Common.{rules, ◌≡◌, ◌-ℤ◌, pos, arith, ap, to_z, of_z, w64, append-nil}
use Rattle.ent_shared.proofs.Common.{ints, Ok, [], Span}
use Rattle.ent_shared.proofs.Holding.{Gives, gives, nothing_at, length-served, enough_at_first}
use Rattle.ent_shared.proofs.shared.Shared.reserve_many.Goals as goal
use Rattle.ent_shared.proofs.shared.Shared.reserve_many.Goals.{After-reply, After-reply-2}

-- the reply to a request of nothing
none : (c : After-reply) → c.reply.result ≡ Ok []
none c = nothing_at c.self.inside.entities.allocator _ _ _ c.new.ensures.value c.reply.ensures

pub unreachable-requires : goal.unreachable-requires
unreachable-requires c =
    let is = none (goal.at.unreachable-requires c).After-reply in
    let bad = c.in_default.is in
    cc

pub returns-then-n-eq0-clause-nothing : goal.returns-then-n-eq0-clause-nothing
returns-then-n-eq0-clause-nothing c n =
    let is = none (goal.at.returns-then-n-eq0-clause-nothing c).After-reply in
    search (rules, c.in-Ok.is, c.in-Ok.nothing)

pub reply-requires-2 : goal.reply-requires-2
reply-requires-2 c = search rules

-- the span is the request's, at the cursor that the step found
spanned : (c : After-reply-2) → c.new-span.result
    ≡ record { high = c.reserve.result; low = c.reserve.result -ℤ pos c.args.n }
spanned c = search (rules, ints)

-- what it gives and leaves
known : (c : After-reply-2)
    → Gives c.args.self.now c.args.reserver.now c.reserve.new.token.views
    c.reserve.new.token.table_id c.reserver.inside.number c.reserver.inside.left c.args.n
    c.reserver.inside.floor c.reserve.result c.reply-2.result
known c =
    gives _ _ _ _ _ _ _ _ _ _ _ _ c.reserver.view_is c.reserver.invariant c.requires (omega arith)
    c.reserve.ensures.same c.reserve.ensures.gains c.reserve.ensures.mark (search (rules, spanned))

pub invariant_of-reserver-2 : goal.invariant_of-reserver-2
invariant_of-reserver-2 c =
    let fits = c.reserve.type_inv in
    let least = c.reserve.ensures.least in
    let few = c.ranges.n in
    let at = (goal.at.invariant_of-reserver-2 c).After-reply-2 in
    let low : to_z w64 (of_z w64 c.new-span.result.low) ≡ c.reserve.result -ℤ pos c.args.n = omega
    (arith, ints, ap (λ (s : Span). s.low) (spanned at)) in
    rw (c.from-2.ensures, low) ((known at).served _ c.in_ok-handles.was)

pub invariant_of-reserver : goal.invariant_of-reserver
invariant_of-reserver c =
    rw c.from-2.ensures
    ((known (goal.at.invariant_of-reserver c).After-reply-2).refused _ c.in_err-handles.was)

pub returns-then-n-eq0-clause-length : goal.returns-then-n-eq0-clause-length
returns-then-n-eq0-clause-length c =
    let is = none (goal.at.returns-then-n-eq0-clause-length c).After-reply in
    search (rules, c.in-Ok.is, c.in-Ok.nothing, c.if-n-eq0.true)

pub returns-clause-stays : goal.returns-clause-stays
returns-clause-stays c = (known (goal.at.returns-clause-stays c).After-reply-2).stays

pub returns-clause-length : goal.returns-clause-length
returns-clause-length c = search (rules, length-served)

pub returns-clause-enough : goal.returns-clause-enough
returns-clause-enough c = search (rules, enough_at_first, spanned)

pub returns-in_err-handles-clause-stays : goal.returns-in_err-handles-clause-stays
returns-in_err-handles-clause-stays c =
    (known (goal.at.returns-in_err-handles-clause-stays c).After-reply-2).stays

pub returns-then-n-eq0-clause-given : goal.returns-then-n-eq0-clause-given
returns-then-n-eq0-clause-given c =
    let is = none (goal.at.returns-then-n-eq0-clause-given c).After-reply in
    search (rules, c.in-Ok.is, c.in-Ok.nothing, append-nil, c.args.reserver.now.own)

pub returns-clause-given : goal.returns-clause-given
returns-clause-given c = search (rules, known)

pub returns-in_err-handles-clause-refused : goal.returns-in_err-handles-clause-refused
returns-in_err-handles-clause-refused c = search (rules, known, append-nil)
