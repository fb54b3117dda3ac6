use Rattle.ent_storage.proofs.Common.{sym, rules, total, same}
use Rattle.ent_storage.proofs.Counted.{counted_has, counted_not, counted_none}
use Rattle.ent_storage.proofs.Rising.{get_at, get_in_gap}
use Rattle.ent_storage.proofs.index.place_found.Goals as goal

-- the handle is in a gap
pub returns-in_default : goal.returns-in_default
returns-in_default c =
    let gap = rw c.in_default.is at c.requires.absent in
    let none = get_in_gap total same _ c.requires.sorted _ _ gap in
    sym (counted_none _ _ _ none)

-- the pair that was read is the handle's
pub returns-then-has_key_at : goal.returns-then-has_key_at
returns-then-has_key_at c =
    let at = rw c.in-Ok.is at c.requires.found in
    let read = get_at total same _ c.requires.sorted _ _ c.index-pairs-position.result at in
    search (rules, counted_has c.args.rows.now.places _ c.args.handle _ read)

pub returns-else-has_key_at : goal.returns-else-has_key_at
returns-else-has_key_at c =
    let at = rw c.in-Ok.is at c.requires.found in
    let read = get_at total same _ c.requires.sorted _ _ c.index-pairs-position.result at in
    search (rules, counted_not c.args.rows.now.places _ c.args.handle _ read)
