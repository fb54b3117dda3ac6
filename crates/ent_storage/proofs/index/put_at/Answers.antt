use Rattle.ent_storage.proofs.Common.{ap, refl, ◌∙◌, total, same, fin_get}
use Rattle.ent_storage.proofs.Keys.{get-insert_same, get-insert_other}
use Rattle.ent_storage.proofs.Counted.{counted_gives}
use Rattle.ent_storage.proofs.Rising.{rising_set, map_set}
use Rattle.ent_storage.proofs.index.put_at.Goals as goal

-- the handle was there already
pub returns-in-Ok-clause-sorted : goal.returns-in-Ok-clause-sorted
returns-in-Ok-clause-sorted c =
    let at = rw c.in-Ok.is at c.requires.found in rising_set total same _ c.requires.sorted _ _ _ at

pub returns-in-Ok-clause-placed : goal.returns-in-Ok-clause-placed
returns-in-Ok-clause-placed c =
    let at = rw c.in-Ok.is at c.requires.found in
    ap (λ m. fin_get m c.args.pair.0) (map_set total same _ c.requires.sorted _ _ _ at)
    ∙ get-insert_same total same _ _ _ _ refl

-- what counted counts still
pub returns-in-Ok-clause-kept : goal.returns-in-Ok-clause-kept
returns-in-Ok-clause-kept c q i n old =
    let at = rw c.in-Ok.is at c.requires.found in
    ap (λ m. fin_get m q) (map_set total same _ c.requires.sorted _ _ _ at)
    ∙ get-insert_other total same _ _ _ q n
    ∙ (counted_gives _ _ q i old).0
