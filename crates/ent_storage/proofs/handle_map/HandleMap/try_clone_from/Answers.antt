use Rattle.ent_storage.proofs.Common.{rules, ◌≡◌, []}
use Rattle.ent_storage.proofs.Entries.{map_emptied}
use Rattle.ent_storage.proofs.Clones.{cloned_keys, cloned_counted, length_from}
use Rattle.ent_storage.proofs.handle_map.HandleMap.try_clone_from.Goals as goal

-- the new slots are clones of the source's
pub invariant_of-self-2 : goal.invariant_of-self-2
invariant_of-self-2 g c =
    cloned_counted g.T.Clone.is_clone c.source.inside.slots.items _ _ (search rules)
    c.source.invariant

pub returns-clause-keys : goal.returns-clause-keys
returns-clause-keys g c = search (rules, cloned_keys g.T.Clone.is_clone)

pub returns-clause-slots : goal.returns-clause-slots
returns-clause-slots g c =
    let same =
    length_from g.T.Clone.is_clone c.source.inside.slots.items
    c.append_clones-cloned.new.slots.items
    (search rules) in
    search rules

-- after an `Err` there is no slot
pub returns-in_err-cloned-clause-emptied : goal.returns-in_err-cloned-clause-emptied
returns-in_err-cloned-clause-emptied g c =
    let none : c.append_clones-cloned.new.slots.items ≡ [] = search rules in
    let zero : c.append_clones-cloned.new.slots.len ≡ 0 =
    search (rules, none, c.append_clones-cloned.new.slots.ok.0) in
    let limit : c.self.inside.limit ≡ c.args.self.now.limit = search (rules, c.self.view_is) in
    search (rules, map_emptied _ _ c.append_clones-cloned.new.slots.cap _ _ none zero limit)
