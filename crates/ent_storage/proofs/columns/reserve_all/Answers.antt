use Rattle.ent_storage.proofs.Common.{ℤ, get_or, ap, sym, ◌∙◌, arith, pos, ComponentId, Values}
use Rattle.ent_storage.proofs.Common.{components_at, fin_get}
use Rattle.ent_storage.proofs.Missing.{missing_at, on_err}
use Rattle.ent_storage.proofs.ColumnsAtPlaces.{get_components}
use Rattle.ent_storage.proofs.columns.reserve_all.Goals as goal

-- the item for which memory was refused is missing
pub returns-in_err-reserve-clause-growing : goal.returns-in_err-reserve-clause-growing
returns-in_err-reserve-clause-growing c =
    let item : ComponentId × ℤ =
    get_or c.args.items.now c.loop-item.item-index (record { 0 = 0 }, pos 0) in
    let same =
    ap (λ (m : Values). fin_get m c.args.place) (c.loop-item.invariant.values item.0.0) in
    let none = get_components c.args.columns.now.items c.args.place item.0 ∙ sym same
    ∙ c.in_err-reserve.ensures.growing in
    on_err _
    (missing_at (components_at c.args.columns.now.items c.args.place) c.args.items.now
    c.loop-item.item-index
    (record { 0 = 0 }, pos 0) (omega arith) none)
