use Rattle.ent_storage.proofs.Common.{common_steps, arith, at_drop_more}
use Rattle.ent_storage.proofs.ColumnsAtPlaces.{components_insert, insert_others, insert_room}
use Rattle.ent_storage.proofs.InUse.{rest_kept}
use Rattle.ent_storage.proofs.columns.set_all.Goals as goal

pub loop-item-preserved : goal.loop-item-preserved
loop-item-preserved c =
    let kept = rest_kept in
    grind (arith, common_steps, components_insert, at_drop_more, insert_others, insert_room, kept)
