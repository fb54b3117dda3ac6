use Rattle.ent_alloc.proofs.Common.{◌≡◌, length, take, range_with_len}
use Rattle.ent_alloc.proofs.front.number_from.Given as goal

abbrev pub invariant-loop-position : goal.invariant-loop-position
invariant-loop-position l = record {
  numbered : take l.position l.places ≡ range_with_len l.first l.position;
  as_long : length l.places ≡ length l.initial.places;
}
