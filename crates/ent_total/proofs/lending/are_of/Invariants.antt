use Rattle.ent_total.proofs.Common.{take, AreOf}
use Rattle.ent_total.specs.Lending.{AreFrom}
use Rattle.ent_total.proofs.lending.are_of.Given as goal

-- those before this one are of the phase
abbrev pub invariant-loop-reserver : goal.invariant-loop-reserver
invariant-loop-reserver g l =
    AreOf l.phase.number (take l.reserver-index l.reservers)
    × AreFrom l.phase.source (take l.reserver-index l.reservers)
