use Rattle.ent_storage.proofs.Common.{ap, HandleMap, arith, common_steps}
use Rattle.ent_storage.proofs.Found.{found, counted-write, read_of, made, got}
use Rattle.ent_storage.proofs.Entries.{map-write}
use Rattle.ent_storage.proofs.handle_map.HandleMap.value_mut.Goals as goal

pub invariant_of-self-lent : goal.invariant_of-self-lent
invariant_of-self-lent g c w =
    let slots = c.self.inside.slots.items in
    let f =
    found slots _ c.args.handle (ap (λ (m : HandleMap g.row.T.Denot). m.values) c.self.view_is)
    c.requires in
    let is =
    read_of slots _ f.0 _ c.index_mut.result.now f.1 c.index.ensures
    c.index_mut.ensures.value in
    rw (c.index.ensures, is) (counted-write slots _ f.0 w _ f.1 c.self.invariant)

pub returns : goal.returns
returns g c = grind (arith, common_steps, found, read_of, map-write, made, got)
