use Rattle.ent_alloc.proofs.Common.{rules, subst, Roster, AreSlots}
use Rattle.std.specs.FinMap as maps
use Rattle.ent_alloc.proofs.ImageLinked.{rowless_slots, rowless_bytes_are}
use Rattle.ent_alloc.proofs.slots.Slots.write_image_without_rows.Goals as goal

pub returns : goal.returns
returns c =
    let e = c.self.inside in
    let slots = subst (λ (r : Roster). AreSlots (record r { rows = maps.empty })) c.self.view_is
    (rowless_slots e.limits e.records.items e.pending.items e.retired c.self.invariant) in
    let bytes = rowless_bytes_are e.limits e.records.items e.pending.items e.retired c.self.invariant in
    search (rules, bytes, slots, c.self.view_is)
