use Rattle.ent_replay.proofs.Common.{◌≡◌, ℕ, ℤ, pos, ◌-ℤ◌, List, Ok, Result, sym, ap, ◌∙◌, rules}
use Rattle.ent_replay.proofs.Common.{ints, Handle, Space, Span, Allocator, pool_at, reply_from}
use Rattle.ent_replay.proofs.trace.lineup.reply_at.Goals as goal

-- the positions that the request passes tell its reply
told : (s : Allocator) (n : ℕ) (at : ℤ) (span : Span) (result : Result (List Handle) Space)
    → span.high ≡ at → span.low ≡ span.high -ℤ pos n
    → ((m : ℕ) → span.low ≡ span.high -ℤ pos m → result ≡ reply_from s.made (pool_at s span.high) m)
    → result ≡ reply_from s.made (pool_at s at) n
told s n at span result high low says =
    says n low ∙ ap (λ x. reply_from s.made (pool_at s x) n) high

pub returns-in_ok-listed-in-Ok : goal.returns-in_ok-listed-in-Ok
returns-in_ok-listed-in-Ok c = (λ i. Ok (c.in_ok-listed-in-Ok.ensures i)) ∙ sym c.in-Ok.is
    ∙ told c.args.entities.now.allocator c.args.n c.args.at _ c.reply.result (search (rules, ints))
    (search (rules, ints)) c.reply.ensures

pub returns-in-Err : goal.returns-in-Err
returns-in-Err c = sym c.in-Err.is
    ∙ told c.args.entities.now.allocator c.args.n c.args.at _ c.reply.result (search (rules, ints))
    (search (rules, ints)) c.reply.ensures
