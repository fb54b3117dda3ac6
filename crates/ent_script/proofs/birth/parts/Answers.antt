use Rattle.ent_script.proofs.Common.{rules}
use Rattle.ent_script.proofs.Births.{birth_of_split}
use Rattle.ent_script.proofs.birth.parts.Goals as goal

pub returns-clause-some : goal.returns-clause-some
returns-clause-some c before = search (rules, birth_of_split)
