use Rattle.ent_storage.proofs.Common.{◌≡◌, ℕ, length}
use Rattle.ent_storage.proofs.InUse.{IsPassed}
use Rattle.ent_storage.proofs.columns.swap_remove.Given as goal

-- the columns in use that were passed are changed, and no others
abbrev pub invariant-loop-number : goal.invariant-loop-number
invariant-loop-number l = record {
  passed : (n : ℕ) → IsPassed l.used l.place l.last l.initial.columns l.number-index l.columns n;
  len : length l.columns ≡ length l.initial.columns;
}
