use Rattle.ent_alloc.proofs.Common.{◌≡◌, ◌+◌, drop, occupants}
use Rattle.ent_alloc.proofs.living.first_occupant_of.Given as goal

-- the records that were passed have no living occupant
abbrev pub invariant-loop-position : goal.invariant-loop-position
invariant-loop-position l =
    occupants (l.index + l.position) (drop l.position l.records) ≡ occupants l.index l.records
