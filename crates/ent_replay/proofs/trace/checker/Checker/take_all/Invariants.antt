use Rattle.ent_replay.proofs.Common.{reverse, reserve_lines, vec_len}
use Rattle.ent_replay.proofs.Recorded.{Leads}
use Rattle.ent_replay.proofs.trace.checker.Checker.take_all.Given as goal

-- what is left, from its end on, leads to the end
abbrev pub invariant-loop-reservation : goal.invariant-loop-reservation
invariant-loop-reservation l = Leads l.fn.self (reserve_lines l.fn.reservations.items) l.self
    (reserve_lines (reverse l.reservations.items))

abbrev pub decreases-loop-reservation : goal.decreases-loop-reservation
decreases-loop-reservation l = vec_len l.reservations
