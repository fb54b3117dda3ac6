use Rattle.ent_alloc.proofs.Common.{rules, drop-map, take-map}
use Rattle.ent_alloc.proofs.reserved.Reserved.new.Goals as goal

pub returns : goal.returns
returns c = search (rules, take-map, drop-map, c.slots.view_is)
