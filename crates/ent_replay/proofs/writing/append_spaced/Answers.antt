use Rattle.ent_replay.proofs.Common.{common_steps, rules, length, arith, ◌+◌, ◌≤◌}
use Rattle.ent_replay.proofs.Common.{err_from_is_err_and, handle_text, spaced, length-append}
use Rattle.ent_replay.proofs.ScheduleWords.{spaced_fits}
use Rattle.ent_replay.proofs.writing.append_spaced.Goals as goal

pub returns-in_err-append-clause-full : goal.returns-in_err-append-clause-full
returns-in_err-append-clause-full c =
    -- the text so far, a space and this handle's text are no longer than the whole
    let fits : length c.loop-handle.out.items + (1 + length (handle_text c.handle-item.result))
    ≤ length c.args.out.now.items + length (spaced c.args.handles.now) =
    search (rules, spaced_fits) in
    let p = err_from_is_err_and c.from_residual.result c.from_residual.ensures.1 in
    search (rules, fits, c.in_err-append.ensures.full, c.loop-handle.out.ok, c.args.out.now.ok)

pub returns-in_err-write_text-clause-full : goal.returns-in_err-write_text-clause-full
returns-in_err-write_text-clause-full c =
    let p =
    err_from_is_err_and c.from_residual-in_err-write_text.result
    c.from_residual-in_err-write_text.ensures.1 in
    grind (arith, common_steps, spaced_fits, length-append)
