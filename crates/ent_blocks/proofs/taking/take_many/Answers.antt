use Rattle.ent_blocks.proofs.Common.{rules, ◌≡◌, ap, ◌∙◌, ◌+◌, ◌-ℤ◌, pos, Ok, arith, take, ints}
use Rattle.ent_blocks.proofs.Common.{length-take-le, reply_from, listed, cursor, Span, rest_of}
use Rattle.ent_blocks.proofs.Positions.{served_many, served, pool_there, length-rest, length-listed}
use Rattle.ent_blocks.proofs.taking.take_many.Goals as goal
use Rattle.ent_blocks.proofs.taking.take_many.Goals.{After-reply}

pub reply-requires : goal.reply-requires
reply-requires c = search rules

-- what the allocator replies
replied : (c : After-reply) → c.reply.result ≡ Ok (listed c.args.entities.now.allocator.made
    (take c.args.n (rest_of c.args.entities.now.allocator.pool c.args.part.now)))
replied c =
    let s = c.args.entities.now.allocator in
    let r = c.args.part.now in
    let n = c.args.n in
    let at : c.new-span.result.high ≡ cursor s -ℤ pos (r.before + r.used) =
    ap (λ (s : Span). s.high)
    c.new-span.ensures.value ∙ (omega (arith, ints, c.requires.few, c.requires.flushed)) in
    let long = length-rest s.pool r (omega (arith, c.requires.left)) c.requires.within in
    let pool =
    pool_there s c.cursor-cursor.ensures.sound c.requires.flushed (r.before + r.used)
    c.new-span.result.high at in
    c.reply.ensures n (search rules) ∙ ap (λ pool. reply_from s.made pool n) pool
    ∙ served_many s.made n s.pool r c.requires.left c.requires.within
    ∙ served s.made n (rest_of s.pool r) (omega (arith, long, c.requires.left))

pub unreachable-requires : goal.unreachable-requires
unreachable-requires c =
    let is = replied (goal.at.unreachable-requires c).After-reply in search (rules, is)

pub returns-clause-given : goal.returns-clause-given
returns-clause-given c = search (rules, replied)

pub returns-clause-length : goal.returns-clause-length
returns-clause-length c = search (rules, replied, length-listed, length-take-le, length-rest)
