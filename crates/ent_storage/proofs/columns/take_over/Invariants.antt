use Rattle.ent_storage.proofs.Common.{◌≡◌, ◌<◌, ◌≤◌, ℕ, length, no_column, column_at}
use Rattle.ent_storage.proofs.columns.take_over.Given as goal

-- the columns that were passed have the values of the source, and the others are as they were
abbrev pub invariant-loop-number : goal.invariant-loop-number
invariant-loop-number l = record {
  passed : (k : ℕ) → k < l.number → (column_at l.columns k).values ≡ (column_at l.source k).values;
  ahead : (k : ℕ) → l.number ≤ k → column_at l.columns k ≡ column_at l.initial.columns k;
  rest : (k : ℕ) → column_at l.initial.columns k ≡ no_column → column_at l.columns k ≡ no_column;
  len : length l.columns ≡ length l.initial.columns;
}
