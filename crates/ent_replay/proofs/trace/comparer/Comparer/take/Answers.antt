use Rattle.ent_replay.proofs.Orders.{run_more}
use Rattle.ent_replay.proofs.Common.{rules}
use Rattle.ent_replay.proofs.trace.comparer.Comparer.take.Goals as goal

pub returns-in-Reserve-clause-follows : goal.returns-in-Reserve-clause-follows
returns-in-Reserve-clause-follows c = search (rules, run_more)
