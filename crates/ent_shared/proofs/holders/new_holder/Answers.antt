use Rattle.ent_shared.proofs.Common.{rules}
use Rattle.ent_shared.proofs.Regrouping.{enters}
use Rattle.ent_shared.proofs.holders.new_holder.Goals as goal

pub load_new_seat-requires : goal.load_new_seat-requires
load_new_seat-requires g c = (search rules, enters _ c.requires.rule _)
