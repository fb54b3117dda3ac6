use Rattle.ent_replay.proofs.Tables.{get-inserted, get-insert_other}
use Rattle.ent_replay.proofs.Common.{rules, cases_eq}
use Rattle.ent_replay.proofs.Lineups.{others}
use Rattle.ent_replay.proofs.trace.suspect.suspect.Goals as goal

pub loop-index-preserved : goal.loop-index-preserved
loop-index-preserved c = record {
  seen_are = search (rules, cases_eq, get-inserted, others, get-insert_other);
  few = search (rules, c.loop-index.invariant.few, c.if-tries-eq-TRIES.false);
}
