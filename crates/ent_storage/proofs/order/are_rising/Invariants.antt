use Rattle.ent_storage.proofs.Common.{◌≡◌, ◌-◌, get_or, map, packed_birth, Birth, Handle, Resident}
use Rattle.ent_storage.proofs.RisingBirths.{AreInOrder}
use Rattle.ent_storage.proofs.order.are_rising.Given as goal

-- those that were compared are in order, and the last of them is packed
abbrev pub invariant-loop-i : goal.invariant-loop-i
invariant-loop-i l = record {
  order : AreInOrder (map {A = Resident} {B = Birth × Handle}
      (λ resident. (resident.birth, resident.handle)) l.residents) l.i;
  last : (d : Resident) → l.last ≡ packed_birth (get_or l.residents (l.i - 1) d).birth;
}
