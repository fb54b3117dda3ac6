use Rattle.ent_replay.proofs.Common.{sym, ◌∙◌, rules, eqb-true}
use Rattle.ent_replay.proofs.ScheduleWords.{never_closed, closed_early, closed}
use Rattle.ent_replay.proofs.trace.answers.read_closed.Goals as goal

pub returns-in_default : goal.returns-in_default
returns-in_default c = sym (never_closed c.args.text.now (search rules))

pub returns-then-not-is_empty : goal.returns-then-not-is_empty
returns-then-not-is_empty c =
    sym
    (closed_early c.args.text.now c.in-Some.count.now c.in-Some.others.now c.in-Some.ensures.found
    c.in-Some.ensures.first (sym c.is_empty.ensures ∙ c.if-not-is_empty.true))

pub returns : goal.returns
returns c = c.read_number.ensures
    ∙ sym
    (closed c.args.text.now c.in-Some.count.now c.in-Some.others.now c.in-Some.ensures.found
    c.in-Some.ensures.first (eqb-true _ _ (sym c.is_empty.ensures ∙ c.if-not-is_empty.false)))
