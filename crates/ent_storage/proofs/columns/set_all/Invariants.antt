use Rattle.ent_storage.proofs.Common.{◌≡◌, ◌≢◌, ◌<◌, ℕ, length, drop, get_or, ℤ, ComponentId}
use Rattle.ent_storage.proofs.Common.{with_items, HasRoomAt, no_column, column_at, value_at}
use Rattle.ent_storage.proofs.Common.{components_at}
use Rattle.ent_storage.proofs.columns.set_all.Given as goal

-- what is set, what is left to set, and room for that
abbrev pub invariant-loop-item : goal.invariant-loop-item
invariant-loop-item l = record {
  here : with_items (components_at l.columns l.place) (drop l.item-index l.items)
      ≡ with_items (components_at l.initial.columns l.place) l.items;
  others : (other : ℕ) (id : ComponentId) → other ≢ l.place
      → value_at l.columns other id ≡ value_at l.initial.columns
      other id;
  room : (k : ℕ) (d : ComponentId × ℤ) → k < length l.items
      → HasRoomAt (column_at l.columns (get_or l.items k d).0.0)
      l.place;
  rest : (number : ℕ) → column_at l.initial.columns number ≡ no_column
      → column_at l.columns number ≡ no_column;
}
