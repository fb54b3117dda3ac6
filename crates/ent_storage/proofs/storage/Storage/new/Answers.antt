use Rattle.ent_storage.proofs.KeptIndex.{kept_none}
use Rattle.ent_storage.proofs.storage.Storage.new.Goals as goal

pub invariant_of-result : goal.invariant_of-result
invariant_of-result c = kept_none _ _ _ c.new.ensures.entities c.new.ensures.places
