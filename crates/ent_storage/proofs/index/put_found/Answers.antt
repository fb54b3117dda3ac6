use Rattle.ent_storage.proofs.Common.{rules}
use Rattle.ent_storage.proofs.Counted.{swept_has}
use Rattle.ent_storage.proofs.index.put_found.Goals as goal

-- what the sweep has left counts still
pub returns-else-len-capacity-clause-kept : goal.returns-else-len-capacity-clause-kept
returns-else-len-capacity-clause-kept c q i n old = search (rules, swept_has)
