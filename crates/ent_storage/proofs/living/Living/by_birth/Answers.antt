use Rattle.ent_storage.proofs.Common.{map, ap, ◌∙◌, Birth, Handle, Living}
use Rattle.ent_storage.proofs.EntitiesOfResidents.{births_from}
use Rattle.ent_storage.proofs.living.Living.by_birth.Goals as goal

pub returns-clause-ok : goal.returns-clause-ok
returns-clause-ok c =
    let same =
    births_from 0 _ _
    ∙ ap (λ (l : Living). map {B = Birth × Handle} (λ e. (e.birth, e.handle)) l.entities)
    c.self.view_is in
    rw (c.deref.ensures.value, same) at c.handles_by_birth.ensures.ok
