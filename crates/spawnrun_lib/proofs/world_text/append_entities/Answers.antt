use Rattle.spawnrun_lib.proofs.Common.{rules, map, string_bytes, err_from_is_err_and, line_in}
use Rattle.spawnrun_lib.proofs.Parts.{part_fits}
use Rattle.spawnrun_lib.proofs.world_text.append_entities.Goals as goal

pub returns-in_err-append_entity-clause-full : goal.returns-in_err-append_entity-clause-full
returns-in_err-append_entity-clause-full c =
    let fits =
    part_fits
    (line_in (map string_bytes c.args.names.now) c.args.show c.args.world.now.entities) _ _ _ _
    _
    c.loop-handle-test.true c.handle-item.is c.loop-handle.invariant.told in
    search (rules, err_from_is_err_and, c.in_err-append_entity.ensures.full)
