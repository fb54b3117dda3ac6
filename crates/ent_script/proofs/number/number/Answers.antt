use Rattle.ent_script.proofs.Common.{common_steps, rules, drop, arith, take_all, length-drop, scan}
use Rattle.ent_script.proofs.Common.{number_of}
use Rattle.ent_script.proofs.number.number.Goals as goal

pub returns-then-has_minus : goal.returns-then-has_minus
unfolding number_of
returns-then-has_minus c = search (rules, scan, drop, take_all, length-drop)

pub returns-else-has_minus : goal.returns-else-has_minus
unfolding number_of
returns-else-has_minus c = grind (arith, common_steps)
