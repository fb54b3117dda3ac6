use Rattle.ent_script.proofs.Common.{◌≡◌, ℕ, ◌≤◌, List, length, Some, Token, items, value, Items}
use Rattle.ent_script.proofs.Common.{of_items, converted, list_of, operation_at}
use Rattle.ent_script.proofs.Common.{left}
use Rattle.ent_script.proofs.Listing.{Reached}
use Rattle.ent_script.proofs.Turns.{Goes}
use Rattle.ent_script.proofs.frames.operations.Given as goal

abbrev pub invariant-operations : goal.invariant-operations
invariant-operations l = record {
  at : (n : ℕ) (ds : Items) (rest : List Token)
      → converted of_items (items (value l.depth) n l.initial.reader)
      ≡ Some (ds, rest)
      → Reached (value l.depth)
      (operation_at l.format l.components l.frame l.system (list_of ds))
      l.operations.items l.number l.reader ds rest l.bound;
  passed : (n : ℕ) → length l.initial.reader ≤ n → Goes (value l.depth)
      (left (converted of_items (items (value l.depth) n l.initial.reader))) l.reader;
  few : l.number ≤ 10000;
  shorter : length l.reader ≤ length l.initial.reader;
}

abbrev pub decreases-operations : goal.decreases-operations
decreases-operations l = length l.reader
