use Rattle.ent_script.proofs.Common.{rules}
use Rattle.ent_script.proofs.Fronts.{passes, plain_same}
use Rattle.ent_script.proofs.found.instead.with_key_char.Goals as goal

pub returns-in-34-clause-text : goal.returns-in-34-clause-text
returns-in-34-clause-text c = search (rules, plain_same, passes)

pub returns-in-92-clause-text : goal.returns-in-92-clause-text
returns-in-92-clause-text c = search (rules, plain_same, passes)
