use Rattle.ent_storage.proofs.Common.{rules}
use Rattle.ent_storage.proofs.EntitiesOfResidents.{inside_from}
use Rattle.ent_storage.proofs.Changed.{reborn_from}
use Rattle.ent_storage.proofs.living.Living.set_birth.Goals as goal

pub returns-clause-entities : goal.returns-clause-entities
returns-clause-entities c =
    let inside = inside_from _ _ _ _ _ c.self.view_is c.requires in
    search (rules, reborn_from, c.self.view_is)
