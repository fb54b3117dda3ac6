use Rattle.tracecheck.proofs.Common.{common_steps, arith, rules, ◌++◌, ◌∷◌, [], List, ℕ, subst, sym}
use Rattle.tracecheck.proofs.Common.{append_assoc, err_from_is_err_and, HasRead}
use Rattle.tracecheck.proofs.Taking.{piece_front, piece_rest}
use Rattle.tracecheck.proofs.lines.feed.Goals as goal

pub returns-in_err-checking-clause-ends : goal.returns-in_err-checking-clause-ends
returns-in_err-checking-clause-ends c =
    let p = err_from_is_err_and c.from_residual.result c.from_residual.ensures.1 in
    let before = c.loop-line.invariant in
    rw (p.1, p.2)
    (λ begin text more read. rw (piece_rest text c.args.piece.now before.0 c.loop-line.rest.now
    c.in-Some.line.now c.in-Some.others.now more before.1 c.in-Some.ensures.found)
    (search (rules, c.in_err-checking.ensures.ends, c.in-Some.others.now)))

pub loop-line-preserved : goal.loop-line-preserved
loop-line-preserved c =
    let before = c.loop-line.invariant in (
      before.0 ++ c.in-Some.line.now ++ 10 ∷ [],
      piece_front c.args.piece.now before.0 c.loop-line.rest.now c.in-Some.line.now
          c.in-Some.others.now before.1
          c.in-Some.ensures.found,
      λ begin text read. subst (λ (bs : List ℕ). HasRead begin bs c.in_ok-checking.checking
          c.end_line.new.pending.items) (sym (grind (arith, common_steps)))
          (c.in_ok-checking.ensures.taken begin (text ++ before.0) (before.2 begin text read)),
    )

pub returns-clause-taken : goal.returns-clause-taken
returns-clause-taken c = search (rules, append_assoc)
