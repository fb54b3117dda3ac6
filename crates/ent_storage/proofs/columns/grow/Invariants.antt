use Rattle.ent_storage.proofs.Common.{◌≡◌, ◌≤◌, ℕ, length, column_at}
use Rattle.ent_storage.proofs.columns.grow.Given as goal

abbrev pub invariant-loop : goal.invariant-loop
invariant-loop l = record {
  same : (number : ℕ) → column_at l.columns.items number ≡ column_at l.initial.columns.items number;
  numbered : length l.columns.items ≤ 256;
  len : length l.columns.items ≡ l.counter;
  longer : length l.initial.columns.items ≤ length l.columns.items;
}
