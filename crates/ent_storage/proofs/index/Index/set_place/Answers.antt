use Rattle.ent_storage.proofs.Common.{rules, false≢true, total, same}
use Rattle.ent_storage.proofs.Rising.{get_in_gap, rising_set, map_set}
use Rattle.ent_storage.proofs.Placed.{same_places}
use Rattle.ent_storage.proofs.index.Index.set_place.Goals as goal

pub invariant_of-self : goal.invariant_of-self
invariant_of-self c =
    let at = rw (← c.of.ensures, c.deref.ensures.value) at c.in-Ok.ensures.found in
    rising_set total same _ c.self.invariant _ _ _ at

pub returns-in-Ok : goal.returns-in-Ok
returns-in-Ok c =
    let at = rw (← c.of.ensures, c.deref.ensures.value) at c.in-Ok.ensures.found in
    let by_handle = map_set total same _ c.self.invariant _ _ c.args.place at in
    search (rules, same_places, by_handle, c.of.ensures, c.self.view_is)

pub returns-in_default : goal.returns-in_default
returns-in_default c =
    let gap = rw c.deref.ensures.value at c.in_default.ensures.absent in
    let none = get_in_gap total same _ c.self.invariant _ _ gap in
    search (rules, none, c.requires.there, false≢true)
