use Rattle.ent_storage.proofs.Common.{rules, ◌≡◌, ap, ◌∙◌, ◌++◌, [], ◌∷◌, length, arith}
use Rattle.ent_storage.proofs.Common.{common_steps, HandleMap}
use Rattle.ent_storage.proofs.Found.{few_values, pushed-counted, pushed-map}
use Rattle.ent_storage.proofs.handle_map.HandleMap.insert_next.Goals as goal

pub overflow_add-self : goal.overflow_add-self
overflow_add-self g c = search (rules, few_values)

pub invariant_of-self : goal.invariant_of-self
invariant_of-self g c =
    let slots = c.self.inside.slots.items in
    let at : length slots ≡ c.args.handle.index = search rules in
    pushed-counted slots c.push_reserved.new.self.items c.args.handle c.args.value
    at (c.push_reserved.ensures.items ∙ ap (λ slot. slots ++ slot ∷ []) c.of.ensures) _
    c.requires.few c.self.invariant

pub returns : goal.returns
returns g c =
    let slots = c.self.inside.slots.items in
    let at : length slots ≡ c.args.handle.index = search rules in
    let put =
    pushed-map slots c.push_reserved.new.self.items c.args.handle c.args.value
    at (c.push_reserved.ensures.items ∙ ap (λ slot. slots ++ slot ∷ []) c.of.ensures) _
    (ap (λ (m : HandleMap g.row.T.Denot). m.values) c.self.view_is) in
    grind (arith, common_steps, put)
