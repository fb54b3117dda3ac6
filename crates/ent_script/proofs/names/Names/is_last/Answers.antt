use Rattle.ent_script.proofs.Common.{rules, bytes_eq-Decides, length-map}
use Rattle.ent_script.proofs.names.Names.is_last.Goals as goal

pub returns-in-Some-clause-last : goal.returns-in-Some-clause-last
returns-in-Some-clause-last c is =
    search (rules, bytes_eq-Decides, length-map, c.self.invariant.1, c.self.view_is)
