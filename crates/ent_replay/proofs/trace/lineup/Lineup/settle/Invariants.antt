use Rattle.ent_replay.proofs.Lineups.{Settling}
use Rattle.ent_replay.proofs.trace.lineup.Lineup.settle.Given as goal

abbrev pub invariant-loop-before : goal.invariant-loop-before
invariant-loop-before l = Settling l.entities.allocator l.fn.self l.lineup l.before

-- a pass that places nothing is the last one
abbrev pub decreases-loop-before : goal.decreases-loop-before
decreases-loop-before l = l.before
