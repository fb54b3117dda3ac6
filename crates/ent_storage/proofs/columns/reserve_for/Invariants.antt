use Rattle.ent_storage.proofs.Common.{◌≡◌, ◌<◌, ◌≤◌, ℕ, length, HasRoomFor, column_at, AreInUse}
use Rattle.ent_storage.proofs.columns.reserve_for.Given as goal

-- the values stay, and there is room for the columns that were passed
abbrev pub invariant-loop-number : goal.invariant-loop-number
invariant-loop-number l = record {
  values : (n : ℕ) → (column_at l.columns.items n).values
      ≡ (column_at l.initial.columns.items n).values;
  room : (k : ℕ) → k < l.number → HasRoomFor (column_at l.columns.items k) (column_at l.source k);
  numbered : length l.columns.items ≤ 256;
  in_use : AreInUse l.used.items l.columns.items;
}
