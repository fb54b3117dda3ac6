use Rattle.ent_storage.proofs.Common.{rules}
use Rattle.ent_storage.proofs.Written.{got_inserted, occupied_written_in}
use Rattle.ent_storage.proofs.sparse_map.entry.OccupiedEntry.get_mut.Goals as goal

pub returns : goal.returns
returns g c = search (rules, occupied_written_in, got_inserted)
