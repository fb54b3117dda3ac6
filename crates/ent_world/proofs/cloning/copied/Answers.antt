use Rattle.ent_world.proofs.Common.{rules}
use Rattle.std.specs.FinMap as map
use Rattle.ent_world.proofs.cloning.copied.Goals as goal

pub returns-then-entities-eq0-clause-entities : goal.returns-then-entities-eq0-clause-entities
returns-then-entities-eq0-clause-entities c = search (rules, map.empty_of_len)
