use Rattle.ent_shared.proofs.Common.{rules}
use Rattle.ent_shared.proofs.Regrouping.{splits_first}
use Rattle.ent_shared.proofs.holders.split_first.Goals as goal

pub split_seat-requires : goal.split_seat-requires
split_seat-requires g c = search (rules, splits_first)
