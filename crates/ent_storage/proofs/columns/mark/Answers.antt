use Rattle.ent_storage.proofs.Common.{searched, Err}
use Rattle.ent_storage.proofs.InUse.{in_use_inserted, rising_from_start}
use Rattle.ent_storage.proofs.columns.mark.Goals as goal

-- the number was put in its gap
pub returns-in_ok-insert-clause-in_use : goal.returns-in_ok-insert-clause-in_use
returns-in_ok-insert-clause-in_use c columns inside in_use =
    let found = rw c.deref.ensures.value at c.in-Err.ensures.position in
    let gap = searched _ _ (Err c.in-Err.gap) found (rising_from_start _ in_use.rising) in
    rw c.in_ok-insert.ensures.items (in_use_inserted _ _ _ gap.0 gap.1 gap.2 columns inside in_use)
