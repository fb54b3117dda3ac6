use Rattle.ent_shared.proofs.Common.{rules}
use Rattle.ent_shared.proofs.Regrouping.{merges}
use Rattle.ent_shared.proofs.holders.merge.Goals as goal

pub join_seat-requires : goal.join_seat-requires
join_seat-requires g c = search (rules, merges, c.requires.rule)
