use Rattle.ent_storage.proofs.Common.{rules}
use Rattle.ent_storage.proofs.EntitiesOfResidents.{read_from}
use Rattle.ent_storage.proofs.living.Living.items.Goals as goal

pub returns : goal.returns
returns c d =
    let read = read_from _ _ _ _ _ c.self.view_is c.requires d in
    search (rules, read, c.new.ensures, c.deref.ensures.value)
