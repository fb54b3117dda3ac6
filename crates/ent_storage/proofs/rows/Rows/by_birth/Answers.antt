use Rattle.ent_storage.proofs.Common.{rules, ◌≡◌, ◌≢◌, ◌<◌, ℕ, List, length, true, mapped, ap, sym}
use Rattle.ent_storage.proofs.Common.{handle_cmp, Birth, Handle, LivingEntity, Entity, EntityMap, ◌∙◌}
use Rattle.ent_storage.proofs.Common.{Store, map_of, IsIndexed, FinMap, fin_empty, fin_len}
use Rattle.ent_storage.proofs.Common.{fin_len-empty}
use Rattle.ent_storage.proofs.Missing.{on_err}
use Rattle.ent_storage.proofs.Indexed.{len_living}
use Rattle.ent_storage.proofs.ByBirth.{filter-all, lists}
use Rattle.ent_storage.proofs.rows.Rows.by_birth.Goals as goal

-- every entity passes
pub returns-clause-ok : goal.returns-clause-ok
returns-clause-ok c =
    let all =
    ap (mapped {B = Birth × Handle} (λ (entity : LivingEntity). (entity.birth, entity.handle)))
    (sym (filter-all c.self.inside.living.entities)) in
    let are = ap (λ (s : Store). s.entities) c.self.view_is in
    rw (← are)
    (lists _ _ c.self.invariant.indexed (λ _. true) _ (rw all at c.in_ok-by_birth.ensures.ok))

-- a map of somebody is not the empty one
not_empty : (living : List LivingEntity) (index : FinMap handle_cmp ℕ) → IsIndexed living index
    → (m : EntityMap) → map_of living ≡ m → 0 < length living → m ≢ fin_empty
not_empty living index indexed m view some none =
    let len : fin_len m ≡ 0 = ap fin_len none ∙ fin_len-empty handle_cmp Entity in
    search (rules, len_living)

pub returns-in_err-by_birth-clause-memory : goal.returns-in_err-by_birth-clause-memory
returns-in_err-by_birth-clause-memory c = search (rules, on_err, not_empty)
