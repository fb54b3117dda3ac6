use Rattle.tracecheck.proofs.Common.{rules, ◌++◌, List, ℕ, sym, ap, ◌∙◌, eqb-true, append-nil}
use Rattle.tracecheck.proofs.Taking.{lines_at_end, lines_none, lines_now}
use Rattle.tracecheck.proofs.lines.finish.Goals as goal

pub returns-then-is_empty : goal.returns-then-is_empty
returns-then-is_empty c = λ begin text read. let none =
    eqb-true _ _ (sym c.is_empty.ensures ∙ c.if-is_empty.true) in
    let all = lines_now begin text c.args.checking c.args.pending.now read
    ∙ ap (λ (ls : List (List ℕ)). read.texts ++ ls) (lines_none c.args.pending.now none)
    ∙ append-nil read.texts in search (rules, c.finish.result, c.finish.ensures)

pub returns-in-Ok : goal.returns-in-Ok
returns-in-Ok c = λ begin text read. let all =
    lines_at_end begin text c.args.checking c.args.pending.now read
    (sym c.is_empty.ensures ∙ c.if-is_empty.false) in rw all
    (search (rules, c.finish-in-Ok.ensures, c.args.pending.now, c.in-Ok.ensures.taken))

pub returns-in-Err : goal.returns-in-Err
returns-in-Err c = λ begin text read. let all =
    lines_at_end begin text c.args.checking c.args.pending.now read
    (sym c.is_empty.ensures ∙ c.if-is_empty.false) in
    search (rules, c.in-Err.end, c.in-Err.ensures.ends)
