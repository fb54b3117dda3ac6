use Rattle.ent_storage.proofs.Common.{rules, get_or_default}
use Rattle.ent_storage.proofs.EntitiesOfResidents.{read_from, inside_from}
use Rattle.ent_storage.proofs.living.Living.birth.Goals as goal

pub returns : goal.returns
returns c d =
    let read = read_from _ _ _ _ _ c.self.view_is c.requires d in
    let inside = inside_from _ _ _ _ _ c.self.view_is c.requires in
    search (rules, read, get_or_default c.self.inside.residents.items c.args.place, c.index.ensures)
