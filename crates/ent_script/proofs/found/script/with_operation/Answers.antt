use Rattle.ent_script.proofs.Common.{rules}
use Rattle.ent_script.proofs.Fronts.{counted}
use Rattle.ent_script.proofs.found.script.with_operation.Goals as goal

pub returns-clause-printable : goal.returns-clause-printable
returns-clause-printable c = search (rules, counted)
