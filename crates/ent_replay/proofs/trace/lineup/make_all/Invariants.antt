use Rattle.ent_replay.proofs.Lineups.{Made}
use Rattle.ent_replay.proofs.trace.lineup.make_all.Given as goal

-- what is left to be made
abbrev pub invariant-loop-placed : goal.invariant-loop-placed
invariant-loop-placed l = Made l.fn.entities.allocator l.entities.allocator l.run l.placed-index
