use Rattle.ent_storage.proofs.Common.{sym, ap, ◌∙◌, arith, common_steps, HandleMap}
use Rattle.ent_storage.proofs.Entries.{map-take}
use Rattle.ent_storage.proofs.Found.{found, made, counted-take}
use Rattle.ent_storage.proofs.handle_map.HandleMap.remove.Goals as goal

pub overflow_sub-self : goal.overflow_sub-self
overflow_sub-self g c =
    let values = ap (λ (m : HandleMap g.row.T.Denot). m.values) c.self.view_is in
    let f =
    found c.self.inside.slots.items _ c.args.handle values
    (sym c.contains.ensures ∙ c.if-not-contains.false) in
    (counted-take _ c.args.handle f.0 _ f.1 c.self.invariant).0

pub invariant_of-self : goal.invariant_of-self
invariant_of-self g c = grind (arith, common_steps, found, counted-take)

pub returns-clause-map : goal.returns-clause-map
returns-clause-map g c = grind (arith, common_steps, found, map-take, made)
