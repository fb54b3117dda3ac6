use Rattle.ent_replay.proofs.Common.{rules, get-remove, eq_by_cmp_equiv}
use Rattle.ent_replay.proofs.Tables.{maps_alike, get-of_tree}
use Rattle.ent_replay.proofs.by_caller.ByCaller.remove.Goals as goal

pub returns : goal.returns
returns g c = search (rules, maps_alike, get-of_tree, get-remove, eq_by_cmp_equiv)
