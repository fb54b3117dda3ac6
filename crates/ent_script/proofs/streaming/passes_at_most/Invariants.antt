use Rattle.ent_script.proofs.Common.{◌≡◌, ℕ, ◌+◌, ◌<◌, ◌≤◌, List, length, true, false, Some, Token}
use Rattle.ent_script.proofs.Common.{items, value, Items, of_items, converted, list_of, left}
use Rattle.ent_script.proofs.Turns.{Goes}
use Rattle.ent_script.proofs.streaming.passes_at_most.Given as goal

abbrev pub invariant-loop-reader : goal.invariant-loop-reader
invariant-loop-reader l = record {
  counted : (n : ℕ) (ds : Items) (rest : List Token)
      → converted of_items (items (value l.depth) n l.initial.reader)
      ≡ Some (ds, rest) → (m : ℕ) × (later : Items)
      × (converted of_items (items (value l.depth) m l.reader)
      ≡ Some (later, rest)) × (l.fits ≡ true
      → length (list_of ds) + l.room ≡ l.most + length (list_of later))
      × (l.fits ≡ false → l.most < length (list_of ds));
  same : (n : ℕ) → length l.initial.reader ≤ n → Goes (value l.depth)
      (left (converted of_items (items (value l.depth) n l.initial.reader))) l.reader;
  shorter : length l.reader ≤ length l.initial.reader;
}

abbrev pub decreases-loop-reader : goal.decreases-loop-reader
decreases-loop-reader l = length l.reader
