use Rattle.ent_storage.proofs.Common.{◌≡◌, ◌≤◌, ◌<◌, ℕ, ℤ, length, get_or, ComponentId, HasRoomAt}
use Rattle.ent_storage.proofs.Common.{column_at, AreInUse}
use Rattle.ent_storage.proofs.columns.reserve_all.Given as goal

-- the values stay, and there is room for the items that were passed
abbrev pub invariant-loop-item : goal.invariant-loop-item
invariant-loop-item l = record {
  values : (number : ℕ) → (column_at l.columns.items number).values
      ≡ (column_at l.initial.columns.items number).values;
  room : (k : ℕ) (d : ComponentId × ℤ) → k < l.item-index
      → HasRoomAt (column_at l.columns.items (get_or l.items k d).0.0) l.place;
  numbered : length l.columns.items ≤ 256;
  in_use : AreInUse l.used.items l.columns.items;
}
