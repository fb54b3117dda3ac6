use Rattle.ent_storage.proofs.Common.{rules, ◌<◌, get_or, ap, ◌∙◌, inr, arith, Components}
use Rattle.ent_storage.proofs.Common.{with_items, missing, Values, Living, LivingEntity, change_at}
use Rattle.ent_storage.proofs.Common.{fin_get}
use Rattle.ent_storage.proofs.ColumnsAtPlaces.{same_components}
use Rattle.ent_storage.proofs.EntitiesOfResidents.{read_from, inside_from, changed_from}
use Rattle.ent_storage.proofs.EntitiesOfResidents.{changed_within, written_back}
use Rattle.ent_storage.proofs.InUse.{in_use_changed}
use Rattle.ent_storage.proofs.Missing.{on_err}
use Rattle.ent_storage.proofs.living.Living.insert.Goals as goal

pub returns-in_err-reserve_all-clause-growing : goal.returns-in_err-reserve_all-clause-growing
returns-in_err-reserve_all-clause-growing c = on_err {P = (d : LivingEntity)
    → 0 < missing (get_or c.args.self.now.entities c.args.place d).components c.args.items.now} _
    (λ d.
    let read = read_from _ _ _ _ _ c.self.view_is c.requires d in
    search (rules, c.args.items.now, c.in_err-reserve_all.ensures.growing))

pub invariant_of-self-2 : goal.invariant_of-self-2
invariant_of-self-2 c =
    let set = rw c.deref_mut.ensures.value at c.set_all.ensures in
    let inside = inside_from _ _ _ _ _ c.self.view_is c.requires in
    rw (written_back _ _ _ set.len c.reserve_all.new.columns.ok.0) (
      changed_within _ _ _ _ inside (omega arith)
          (λ p id far. set.others p id far
          ∙ ap (λ (m : Values). fin_get m p) (c.in_ok-reserve_all.ensures.values id.0))
          c.self.invariant.0,
      in_use_changed _ _ _ (omega arith) (λ n none. inr (set.rest n none))
          c.in_ok-reserve_all.ensures.in_use,
    )

pub returns-clause-ok : goal.returns-clause-ok
returns-clause-ok c =
    let set = rw c.deref_mut.ensures.value at c.set_all.ensures in
    let same = same_components _ _ _ _ (λ id. ap (λ (m : Values). fin_get m c.args.place)
    (c.in_ok-reserve_all.ensures.values id.0)) in
    let here = set.here ∙ ap (λ (m : Components). with_items m c.args.items.now) same in
    rw (written_back _ _ _ set.len c.reserve_all.new.columns.ok.0)
    (changed_from 0 _ _ _ _ _ (λ held. with_items held c.args.items.now) (omega arith) here
    (search (rules, c.in_ok-reserve_all.ensures.values))
    ∙ ap (λ (l : Living). change_at l.entities c.args.place
    (λ held. with_items held c.args.items.now)) c.self.view_is)
