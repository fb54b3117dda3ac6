use Rattle.std.proofs.Common.{rules}
use Rattle.ent_script.proofs.Keyed.{spawn_is}
use Rattle.ent_script.proofs.kind.is_spawn.Goals as goal

pub returns-then-is_some : goal.returns-then-is_some
returns-then-is_some c ms at = search (rules, spawn_is c.args.fields.now ms at)

pub returns-else-is_some : goal.returns-else-is_some
returns-else-is_some c ms at = search (rules, spawn_is c.args.fields.now ms at)
