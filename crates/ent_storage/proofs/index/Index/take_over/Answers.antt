use Rattle.ent_storage.proofs.Common.{rules}
use Rattle.ent_storage.proofs.Counted.{counted_gives}
use Rattle.ent_storage.proofs.index.Index.take_over.Goals as goal

pub returns-then-len-capacity-clause-kept : goal.returns-then-len-capacity-clause-kept
returns-then-len-capacity-clause-kept c q i at =
    let gives = counted_gives _ _ q i at in search (rules, gives.0, c.source.view_is)
