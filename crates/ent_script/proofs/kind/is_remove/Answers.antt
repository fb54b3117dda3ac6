use Rattle.std.proofs.Common.{rules}
use Rattle.ent_script.proofs.Keyed.{remove_is}
use Rattle.ent_script.proofs.kind.is_remove.Goals as goal

pub returns-then-is_some-2 : goal.returns-then-is_some-2
returns-then-is_some-2 c ms at = search (rules, remove_is c.args.fields.now ms at)

pub returns-else-is_some-2 : goal.returns-else-is_some-2
returns-else-is_some-2 c ms at = search (rules, remove_is c.args.fields.now ms at)

pub returns-else-is_some : goal.returns-else-is_some
returns-else-is_some c ms at = search (rules, remove_is c.args.fields.now ms at)
