use Rattle.ent_alloc.proofs.Common.{rules, subst, AreSlots}
use Rattle.ent_alloc.proofs.ImageLinked.{AreTied, tied, are_slots, slots_bytes_are}
use Rattle.ent_alloc.proofs.slots.Slots.write_image.Goals as goal

pub returns : goal.returns
returns c =
    let e = c.self.inside in
    let ties : AreTied e.limits e.records.items e.pending.items = search (rules, tied) in
    record {
      written = search (rules, slots_bytes_are);
      slots =
          subst AreSlots c.self.view_is (are_slots e.limits e.records.items e.pending.items ties);
    }
