use Rattle.ent_replay.proofs.Common.{rules, get-insert, eq_by_cmp_equiv}
use Rattle.ent_replay.proofs.Tables.{maps_alike, get-of_tree}
use Rattle.ent_replay.proofs.by_caller.ByCaller.insert.Goals as goal

pub returns-clause-ok : goal.returns-clause-ok
returns-clause-ok g c = search (rules, maps_alike, get-of_tree, get-insert, eq_by_cmp_equiv)
