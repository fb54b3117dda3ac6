use Rattle.ent_world.proofs.Common.{rules}
use Rattle.ent_world.proofs.Kept.{keys-empty}
use Rattle.ent_world.proofs.PlacedRows.{rows-empty}
use Rattle.ent_world.proofs.Worlds.{none_made}
use Rattle.ent_world.proofs.world.World.new.Goals as goal

-- nobody lives, and the map is empty
pub invariant_of-result : goal.invariant_of-result
invariant_of-result c = search (rules, keys-empty, rows-empty, none_made)

pub returns-clause-world : goal.returns-clause-world
returns-clause-world c = search (rules, keys-empty)
