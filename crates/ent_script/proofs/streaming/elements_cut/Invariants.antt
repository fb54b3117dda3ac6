use Rattle.ent_script.proofs.Common.{◌≡◌, ℕ, ◌≤◌, List, ◌++◌, length, map, Some, Token, items}
use Rattle.ent_script.proofs.Common.{value, Items, of_items, converted, view, cut, list_of, left}
use Rattle.ent_script.proofs.Turns.{Goes}
use Rattle.ent_script.proofs.streaming.elements_cut.Given as goal

abbrev pub invariant-elements : goal.invariant-elements
invariant-elements l = record {
  found : (n : ℕ) (ds : Items) (rest : List Token)
      → converted of_items (items (value l.depth) n l.initial.reader)
      ≡ Some (ds, rest) → (m : ℕ) × (later : Items)
      × (converted of_items (items (value l.depth) m l.reader)
      ≡ Some (later, rest)) × (map (cut l.levels) (list_of ds) ≡ map view l.found.items
      ++ map (cut l.levels) (list_of later));
  same : (n : ℕ) → length l.initial.reader ≤ n → Goes (value l.depth)
      (left (converted of_items (items (value l.depth) n l.initial.reader))) l.reader;
  few : length l.found.items ≤ l.most;
  shorter : length l.reader ≤ length l.initial.reader;
}

abbrev pub decreases-elements : goal.decreases-elements
decreases-elements l = length l.reader
