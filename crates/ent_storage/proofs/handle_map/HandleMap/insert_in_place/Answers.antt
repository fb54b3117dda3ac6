use Rattle.ent_storage.proofs.Common.{rules, ◌≡◌, ◌≢◌, ◌<◌, ap, length, arith}
use Rattle.ent_storage.proofs.Common.{common_steps, count_at, generation_of, slot_at, HandleMap}
use Rattle.ent_storage.proofs.Common.{Occupied}
use Rattle.ent_storage.proofs.Found.{few_values, put-added, put-kept, later, read}
use Rattle.ent_storage.proofs.handle_map.HandleMap.insert_in_place.Goals as goal

pub overflow_add-self : goal.overflow_add-self
overflow_add-self g c = search (rules, few_values)

pub invariant_of-self : goal.invariant_of-self
invariant_of-self g c =
    let slots = c.self.inside.slots.items in
    let within : c.args.index < length slots = search rules in
    put-added slots c.args.handle c.args.index c.index_mut-slot.result.now c.of.result
    c.args.value c.requires.slot within c.index_mut-slot.ensures.value c.of.ensures _
    c.self.invariant (ap count_at c.in-Vacant.is)

pub invariant_of-self-then-generation-number : goal.invariant_of-self-then-generation-number
invariant_of-self-then-generation-number g c =
    let slots = c.self.inside.slots.items in
    let within : c.args.index < length slots = search rules in
    let some : count_at c.index_mut-slot.result.now ≢ 0 = grind (arith, common_steps) in
    let written :
    Occupied c.in-Occupied.generation c.replace.new.dest
    ≡ Occupied c.args.handle.generation c.args.value = grind (arith, common_steps) in
    put-kept slots c.args.handle c.args.index c.index_mut-slot.result.now
    (Occupied c.in-Occupied.generation c.replace.new.dest) c.args.value c.requires.slot within
    c.index_mut-slot.ensures.value written _ c.self.invariant some

pub returns-then-generation-number-2-clause-later : goal.returns-then-generation-number-2-clause-later
returns-then-generation-number-2-clause-later g c =
    let slots = c.self.inside.slots.items in
    let within : c.args.index < length slots = search rules in
    let is =
    read slots c.args.index c.index_mut-slot.result.now within c.index_mut-slot.ensures.value in
    let above : c.args.handle.generation < generation_of (slot_at slots c.args.handle.index)
    = grind (arith, common_steps, is) in
    let values = ap (λ (m : HandleMap g.row.T.Denot). m.values) c.self.view_is in
    let has = later slots _ c.args.handle values above in
    search (rules, has)

pub invariant_of-self-in-Occupied : goal.invariant_of-self-in-Occupied
invariant_of-self-in-Occupied g c =
    let slots = c.self.inside.slots.items in
    let within : c.args.index < length slots = search rules in
    let some : count_at c.index_mut-slot.result.now ≢ 0 = grind (arith, common_steps) in
    put-kept slots c.args.handle c.args.index c.index_mut-slot.result.now c.of-in-Occupied.result
    c.args.value c.requires.slot within c.index_mut-slot.ensures.value c.of-in-Occupied.ensures _
    c.self.invariant some
