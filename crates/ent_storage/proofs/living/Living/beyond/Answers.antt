use Rattle.ent_storage.proofs.Common.{sym, ap, ◌∙◌, arith, LivingEntity, fin_get}
use Rattle.ent_storage.proofs.ColumnsAtPlaces.{get_components, value_inside}
use Rattle.ent_storage.proofs.EntitiesOfResidents.{read_from}
use Rattle.ent_storage.proofs.living.Living.beyond.Goals as goal

pub returns-clause-within : goal.returns-clause-within
returns-clause-within c i d lt id v at =
    let read = read_from _ _ _ _ i c.self.view_is lt d in
    let inside = value_inside _ i id v (sym (get_components _ i id)
    ∙ sym (ap (λ (e : LivingEntity). fin_get e.components id) read) ∙ at) in
    omega arith
