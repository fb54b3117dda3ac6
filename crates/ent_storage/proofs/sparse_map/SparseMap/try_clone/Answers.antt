use Rattle.ent_storage.proofs.Common.{rules}
use Rattle.ent_storage.proofs.Sparse.{cloned}
use Rattle.ent_storage.proofs.sparse_map.SparseMap.try_clone.Goals as goal

pub returns-clause-clones : goal.returns-clause-clones
returns-clause-clones g c = search (rules, cloned)
