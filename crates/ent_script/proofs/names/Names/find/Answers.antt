use Rattle.ent_script.proofs.Common.{rules}
use Rattle.ent_script.proofs.NamesLaws.{number_within}
use Rattle.ent_script.proofs.names.Names.find.Goals as goal

pub returns-clause-within : goal.returns-clause-within
returns-clause-within c =
    let found = number_within c.args.name.now in
    search (rules, found, c.self.invariant.0 c.args.name.now, c.self.view_is)
