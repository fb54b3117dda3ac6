use Rattle.spawnrun_lib.proofs.Common.{rules, map, string_bytes, err_from_is_err_and, item_text}
use Rattle.spawnrun_lib.proofs.Parts.{first_fits}
use Rattle.spawnrun_lib.proofs.world_text.append_items.Goals as goal

pub returns-in_err-append-clause-full : goal.returns-in_err-append-clause-full
returns-in_err-append-clause-full c =
    let fits = first_fits (item_text (map string_bytes c.args.names.now)) _ _ _ _ _ c.in-Some.item
    c.in-Some.ensures.steps c.loop-item.invariant.told in
    search (rules, err_from_is_err_and, c.in_err-append.ensures.full)
