use Rattle.ent_total.proofs.Common.{◌≡◌, ◌≤◌, ◌+◌, ◌++◌, map, reverse, vec_len}
use Rattle.ent_total.proofs.Common.{vec_capacity}
use Rattle.ent_total.specs.Issuing.{new_issuer}
use Rattle.ent_total.proofs.world_opening.equip.Given as goal

-- each time one less is left
abbrev pub decreases-loop-reserver : goal.decreases-loop-reserver
decreases-loop-reserver l = vec_len l.reservers

-- those that have a queue, and those that are left
abbrev pub invariant-loop-reserver : goal.invariant-loop-reserver
invariant-loop-reserver l = record {
  all : l.callers.items ++ map new_issuer (reverse l.reservers.items)
      ≡ map new_issuer (reverse l.initial.reservers.items);
  room : vec_len l.callers + vec_len l.reservers ≤ vec_capacity l.callers;
  capacity : vec_capacity l.reservers ≡ vec_capacity l.initial.reservers;
  callers_capacity : vec_capacity l.callers ≡ vec_capacity l.initial.callers;
}
