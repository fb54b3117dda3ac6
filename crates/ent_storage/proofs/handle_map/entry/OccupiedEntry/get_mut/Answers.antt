use Rattle.ent_storage.proofs.Common.{rules}
use Rattle.ent_storage.proofs.Written.{got_inserted, occupied_written}
use Rattle.ent_storage.proofs.handle_map.entry.OccupiedEntry.get_mut.Goals as goal

pub returns : goal.returns
returns g c = search (rules, occupied_written, got_inserted)
