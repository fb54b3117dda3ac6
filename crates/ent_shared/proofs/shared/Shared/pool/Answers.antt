use Rattle.ent_shared.proofs.Common.{rules, length-all}
use Rattle.ent_shared.proofs.shared.Shared.pool.Goals as goal

pub returns : goal.returns
returns c = search (rules, length-all)
