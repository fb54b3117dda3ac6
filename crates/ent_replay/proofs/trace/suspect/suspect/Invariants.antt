use Rattle.ent_replay.proofs.Lineups.{Trying}
use Rattle.ent_replay.proofs.trace.suspect.suspect.Given as goal

abbrev pub invariant-loop-index : goal.invariant-loop-index
invariant-loop-index l = Trying l.seen l.rest l.index l.tries
