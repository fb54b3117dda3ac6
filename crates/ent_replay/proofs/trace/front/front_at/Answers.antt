use Rattle.ent_replay.proofs.Common.{rules, ints}
use Rattle.ent_replay.proofs.Lineups.{Listed, Listed-next}
use Rattle.ent_replay.proofs.trace.front.front_at.Goals as goal

pub loop-handle-preserved : goal.loop-handle-preserved
loop-handle-preserved c = search (rules, ints, Listed, Listed-next)
