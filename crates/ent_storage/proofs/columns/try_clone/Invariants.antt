use Rattle.ent_storage.proofs.Common.{take, AllZip, IsCopy}
use Rattle.ent_storage.proofs.columns.try_clone.Given as goal

-- the columns that were passed have copies
abbrev pub invariant-loop-column : goal.invariant-loop-column
invariant-loop-column l = AllZip IsCopy (take l.column-index l.columns) l.copies.items
