use Rattle.ent_blocks.proofs.Common.{rules}
use Rattle.ent_blocks.proofs.Dealing.{lies_in}
use Rattle.ent_blocks.proofs.blocks.Blocks.reserve_many.Goals as goal

pub take_many-requires : goal.take_many-requires
take_many-requires c =
    let lies = lies_in (record {
      start = c.self.inside.entities.allocator;
      rows = c.self.inside.entities.rows;
      blocks = c.self.inside.parts.items;
    }) c.reserver.inside.part c.self.invariant.0 (search rules) in
    search (rules, lies)
