use Rattle.ent_storage.proofs.Common.{◌≡◌, drop, items_of}
use Rattle.ent_storage.proofs.items.first_of.Given as goal

-- the columns that were passed have no value at the place
abbrev pub invariant-loop-position : goal.invariant-loop-position
invariant-loop-position l =
    items_of (drop l.position l.used) l.columns l.place ≡ items_of l.used l.columns l.place
