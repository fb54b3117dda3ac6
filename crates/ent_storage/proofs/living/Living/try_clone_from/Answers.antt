use Rattle.ent_storage.proofs.Common.{rules, ◌≡◌, ◌<◌, ◌⊎◌, List, ap, sym, subst, inr, All, Living}
use Rattle.ent_storage.proofs.Common.{LivingEntity, fin_empty}
use Rattle.ent_storage.proofs.Copied.{bare_columns, entities_same}
use Rattle.ent_storage.proofs.Missing.{on_err}
use Rattle.ent_storage.proofs.EntitiesOfResidents.{written_back}
use Rattle.ent_storage.proofs.living.Living.try_clone_from.Goals as goal

-- memory was refused for a value of the source
pub returns-in_err-reserve_for-clause-memory : goal.returns-in_err-reserve_for-clause-memory
returns-in_err-reserve_for-clause-memory c =
    let memory = rw c.deref.ensures.value at c.in_err-reserve_for.ensures.memory in
    let view = ap (λ (l : Living). l.entities) c.source.view_is in
    on_err
    {P = (c.args.self.now.room < c.args.count) ⊎ (All (λ entity. entity.components ≡ fin_empty)
    c.args.source.now.entities → ⊥)} _ (inr (λ bare. memory
    (bare_columns c.source.inside.residents.items c.source.inside.columns.items c.source.invariant.0
    (subst (λ (es : List LivingEntity). All (λ entity. entity.components ≡ fin_empty) es) (sym view)
    bare))))

pub returns-clause-entities : goal.returns-clause-entities
returns-clause-entities c = search (rules, written_back, entities_same)
