use Rattle.ent_replay.proofs.Lineups.{Passing}
use Rattle.ent_replay.proofs.trace.lineup.Lineup.pass.Given as goal

-- what was gone over, and what is still to be
abbrev pub invariant-loop-one : goal.invariant-loop-one
invariant-loop-one l =
    Passing l.fn.entities.allocator l.fn.self l.placed.items l.left.items l.one-iterator.rest.items
    l.at l.blocked
