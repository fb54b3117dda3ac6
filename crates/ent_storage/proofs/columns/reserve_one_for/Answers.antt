use Rattle.ent_storage.proofs.Common.{rules, ◌≡◌, ◌<◌, ◌∙◌, sym, subst, length, get_or_default}
use Rattle.ent_storage.proofs.Common.{Column, HasRoomFor, no_column, column_at}
use Rattle.ent_storage.proofs.Copied.{room_kept}
use Rattle.ent_storage.proofs.columns.reserve_one_for.Goals as goal

pub returns-clause-kept : goal.returns-clause-kept
returns-clause-kept c other column room =
    let columns = c.put_in_use.new.columns.items in
    let inside : c.args.number < length columns =
    search (rules, c.in_ok-put_in_use.ensures.there) in
    let here : c.index_mut.result.now ≡ column_at columns c.args.number = c.index_mut.ensures.value
    ∙ get_or_default _ _ _ no_column inside in
    room_kept _ _ _ inside
    (λ x fits. c.reserve_for.ensures.kept x (subst (λ (y : Column). HasRoomFor y x) (sym here)
    fits)) other column (subst (λ (y : Column).
    HasRoomFor y column) (sym (c.in_ok-put_in_use.ensures.same other)) room)
