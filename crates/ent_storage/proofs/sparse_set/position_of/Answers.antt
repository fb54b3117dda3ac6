use Rattle.ent_storage.proofs.Common.{rules, slice_get_within, get_or_from_slice_get}
use Rattle.ent_storage.proofs.Dense.{missing}
use Rattle.ent_storage.proofs.sparse_set.position_of.Goals as goal

-- the dense vector ends before the position
pub returns-in_err-pair-clause-absent : goal.returns-in_err-pair-clause-absent
returns-in_err-pair-clause-absent c _ =
    search (rules, missing, get_or_from_slice_get, slice_get_within)
