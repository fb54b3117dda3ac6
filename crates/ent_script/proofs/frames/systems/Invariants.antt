use Rattle.ent_script.proofs.Common.{◌≡◌, ℕ, ◌≤◌, List, length, Some, Token, items, value, Items}
use Rattle.ent_script.proofs.Common.{of_items, converted, system_by}
use Rattle.ent_script.proofs.Common.{left}
use Rattle.ent_script.proofs.Listing.{At}
use Rattle.ent_script.proofs.Turns.{Goes}
use Rattle.ent_script.proofs.frames.systems.Given as goal

abbrev pub invariant-systems : goal.invariant-systems
invariant-systems l = record {
  at : (n : ℕ) (ds : Items) (rest : List Token)
      → converted of_items (items (value l.depth) n l.initial.reader)
      ≡ Some (ds, rest)
      → At (value l.depth) (system_by l.share l.format l.components l.frame) l.systems.items l.number
      l.reader
      ds rest;
  passed : (n : ℕ) → length l.initial.reader ≤ n → Goes (value l.depth)
      (left (converted of_items (items (value l.depth) n l.initial.reader))) l.reader;
  few : l.number ≤ 256;
  shorter : length l.reader ≤ length l.initial.reader;
}

abbrev pub decreases-systems : goal.decreases-systems
decreases-systems l = length l.reader
