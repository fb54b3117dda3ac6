use Rattle.ent_blocks.proofs.Common.{rules, blocks_of}
use Rattle.ent_blocks.proofs.Accounts.{closing, unused_accounted}
use Rattle.ent_blocks.proofs.blocks.Blocks.close_lost.Goals as goal

pub new-requires : goal.new-requires
new-requires c =
    let closes =
    closing c.self.inside.entities.allocator c.self.inside.parts.items
    (blocks_of c.args.reservers.items) c.self.invariant.0 in
    search (rules, closes)

pub returns-clause-all : goal.returns-clause-all
returns-clause-all c =
    let all =
    unused_accounted 0 c.self.inside.parts.items (blocks_of c.args.reservers.items)
    c.self.invariant.0.laid in
    search (rules, all)
