use Rattle.tracecheck.proofs.Common.{rules, ◌≡◌, ◌++◌, err_from_is_err_and, without_return}
use Rattle.tracecheck.proofs.Taking.{cut_line, HasRead-line}
use Rattle.tracecheck.proofs.lines.end_line.Goals.{After-without_return}
use Rattle.tracecheck.proofs.lines.end_line.Goals as goal

-- the bytes that were taken as a line
taken_is : (c : After-without_return) → c.without_return.result.now
    ≡ without_return (c.args.pending.now.items ++ c.args.bytes.now)
taken_is c = search (rules)

pub returns-in_err-checking-clause-ends : goal.returns-in_err-checking-clause-ends
returns-in_err-checking-clause-ends c =
    let is = taken_is (goal.at.returns-in_err-checking-clause-ends c).After-without_return in
    let p =
    err_from_is_err_and c.from_residual-in_err-checking.result
    c.from_residual-in_err-checking.ensures.1 in
    rw (p.1, p.2)
    (λ begin text more read. rw (cut_line begin text c.args.checking c.args.pending.now.items
    c.args.bytes.now c.requires read more)
    (search (rules, c.in_err-checking.field-0.0, c.in_err-checking.ensures.ends)))

pub returns-clause-taken : goal.returns-clause-taken
returns-clause-taken c = λ begin text read. let is =
    taken_is (goal.at.returns-clause-taken c).After-without_return in
    rw c.clear.ensures.items
    (HasRead-line begin text c.args.checking c.in_ok-checking.checking c.args.pending.now.items
    c.args.bytes.now c.requires read
    (search (rules, c.in_ok-checking.checking, c.in_ok-checking.ensures.taken)))
