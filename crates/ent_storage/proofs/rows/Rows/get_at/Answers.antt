use Rattle.ent_storage.proofs.Common.{rules}
use Rattle.ent_storage.proofs.Indexed.{some_entity}
use Rattle.ent_storage.proofs.Placed.{found_at}
use Rattle.ent_storage.proofs.rows.Rows.get_at.Goals as goal

pub returns : goal.returns
returns c =
    let at =
    found_at _ _ _ _ c.self.invariant.indexed c.self.view_is c.args.handle c.args.place
    c.requires in
    search (rules, at, c.value.ensures, some_entity, c.args.handle, c.args.id)
