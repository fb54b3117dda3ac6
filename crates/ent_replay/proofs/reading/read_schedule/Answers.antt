use Rattle.ent_replay.proofs.Common.{rules, sym, vec_len, eqb-true, schedule_of}
use Rattle.ent_replay.proofs.ScheduleLaws.{stops, ends, schedule_found, schedule_refused}
use Rattle.ent_replay.proofs.reading.read_schedule.Goals as goal

pub returns-clause-found : goal.returns-clause-found
returns-clause-found c =
    let e = ends c.loop-rest.events.items (vec_len c.loop-rest.events) c.loop-rest.rest.now _
    (eqb-true _ _ (sym c.loop-rest-test.ensures)) c.loop-rest.invariant in
    search (rules, e, schedule_found)

pub returns-in-Err-clause-refused : goal.returns-in-Err-clause-refused
returns-in-Err-clause-refused c =
    let text = c.args.text.now in
    let e =
    stops c.loop-rest.events.items (vec_len c.loop-rest.events) c.loop-rest.rest.now
    c.first_line.result.0.now
    c.first_line.result.1.now c.in-Err.cause (schedule_of text) c.first_line.ensures.lines
    (sym c.in-Err.ensures)
    c.loop-rest.invariant in
    search (rules, schedule_refused, c.len.result, c.in-Err.cause, c.len.ensures)
