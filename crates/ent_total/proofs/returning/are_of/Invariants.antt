use Rattle.ent_total.proofs.Common.{take, AreOf}
use Rattle.ent_total.proofs.returning.are_of.Given as goal

abbrev pub invariant-loop-reserver : goal.invariant-loop-reserver
invariant-loop-reserver g l = AreOf l.number (take l.reserver-index l.reservers)
