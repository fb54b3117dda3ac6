use Rattle.ent_blocks.proofs.Common.{rules, length-map}
use Rattle.ent_blocks.proofs.Accounts.{all_accounted}
use Rattle.ent_blocks.proofs.blocks.Blocks.close.Goals as goal

pub returns : goal.returns
returns c = search (rules, length-map, all_accounted)
