use Rattle.ent_storage.proofs.Common.{rules}
use Rattle.ent_storage.proofs.EntitiesOfResidents.{inside_from, changed_within, written_back}
use Rattle.ent_storage.proofs.EntitiesOfResidents.{changed_from, read_from}
use Rattle.ent_storage.proofs.InUse.{in_use_changed}
use Rattle.ent_storage.proofs.ColumnsAtPlaces.{get_components}
use Rattle.ent_storage.proofs.living.Living.remove.Goals as goal

pub invariant_of-self : goal.invariant_of-self
invariant_of-self c =
    let removed = rw c.deref_mut.ensures.value at c.remove.ensures in
    let inside = inside_from _ _ _ _ _ c.self.view_is c.requires in
    rw (written_back _ _ _ removed.len c.self.inside.columns.ok.0)
    (search (rules, changed_within, removed), search (rules, in_use_changed, removed))

pub returns-clause-entities : goal.returns-clause-entities
returns-clause-entities c = search (rules, written_back, changed_from)

pub returns-clause-value : goal.returns-clause-value
returns-clause-value c d =
    let read = read_from _ _ _ _ _ c.self.view_is c.requires d in
    search (rules, read, get_components, c.remove.ensures.value, c.deref_mut.ensures.value)
