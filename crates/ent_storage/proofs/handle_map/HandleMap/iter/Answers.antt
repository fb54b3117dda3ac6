use Rattle.ent_storage.proofs.Common.{rules}
use Rattle.ent_storage.proofs.Entries.{pairs_rising}
use Rattle.ent_storage.proofs.handle_map.HandleMap.iter.Goals as goal

pub returns-clause-rising : goal.returns-clause-rising
returns-clause-rising g c = search (rules, pairs_rising)
