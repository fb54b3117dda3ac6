use Rattle.ent_storage.proofs.Common.{rules, ◌≤◌, length, arith, common_steps}
use Rattle.ent_storage.proofs.Entries.{map_padded}
use Rattle.ent_storage.proofs.Found.{counted-padded}
use Rattle.ent_storage.proofs.handle_map.HandleMap.insert_beyond.Goals as goal

pub invariant_of-self-2 : goal.invariant_of-self-2
invariant_of-self-2 g c =
    let slots = c.self.inside.slots.items in
    let past : length slots ≤ c.args.index = search rules in
    counted-padded slots _ c.args.index _ c.in-Ok.ensures.ok past (omega (arith, c.requires.few))
    c.self.invariant

pub returns-clause-ok : goal.returns-clause-ok
returns-clause-ok g c = grind (arith, common_steps, map_padded)
