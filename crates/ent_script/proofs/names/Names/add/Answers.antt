use Rattle.ent_script.proofs.Common.{rules, arith}
use Rattle.ent_script.proofs.NamesLaws.{numbers_added, last_added, none_of}
use Rattle.ent_script.proofs.names.Names.add.Goals as goal

pub invariant_of-self-2 : goal.invariant_of-self-2
invariant_of-self-2 c = search (rules, numbers_added, last_added, none_of)
