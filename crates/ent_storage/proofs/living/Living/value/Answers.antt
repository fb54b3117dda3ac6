use Rattle.ent_storage.proofs.Common.{rules}
use Rattle.ent_storage.proofs.ColumnsAtPlaces.{get_components}
use Rattle.ent_storage.proofs.EntitiesOfResidents.{read_from}
use Rattle.ent_storage.proofs.living.Living.value.Goals as goal

pub returns : goal.returns
returns c d =
    let read = read_from _ _ _ _ _ c.self.view_is c.requires d in
    search (rules, read, get_components, c.value.ensures, c.deref.ensures.value)
