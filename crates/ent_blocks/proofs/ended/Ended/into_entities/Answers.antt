use Rattle.ent_blocks.proofs.Common.{rules}
use Rattle.ent_blocks.proofs.Waiting.{waiting}
use Rattle.ent_blocks.proofs.Given.{used-distinct, used-not_live, used-live}
use Rattle.ent_blocks.proofs.ended.Ended.into_entities.Goals as goal

pub returns : goal.returns
returns c = search (rules, waiting, used-distinct, used-not_live, used-live)
