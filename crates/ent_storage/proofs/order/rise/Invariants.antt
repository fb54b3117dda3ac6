use Rattle.ent_storage.proofs.Common.{◌≡◌, ◌-◌, get_or, map, packed_birth, Birth, Handle, Resident}
use Rattle.ent_storage.proofs.RisingBirths.{AreInOrder}
use Rattle.ent_storage.proofs.order.rise.Given as goal

-- those that were compared are in order, and the last of them is packed
abbrev pub invariant-loop-i : goal.invariant-loop-i
invariant-loop-i l = record {
  order : AreInOrder l.births l.i;
  last : (d : Birth × Handle) → l.last ≡ packed_birth (get_or l.births (l.i - 1) d).0;
}
