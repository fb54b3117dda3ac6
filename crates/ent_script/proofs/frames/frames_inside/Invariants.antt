use Rattle.ent_script.proofs.Common.{◌≡◌, ℕ, ◌≤◌, List, length, Some, Token, items, value, Items}
use Rattle.ent_script.proofs.Common.{of_items, converted, frame_by}
use Rattle.ent_script.proofs.Common.{left}
use Rattle.ent_script.proofs.Listing.{At}
use Rattle.ent_script.proofs.Turns.{Goes}
use Rattle.ent_script.proofs.frames.frames_inside.Given as goal

abbrev pub invariant-frames : goal.invariant-frames
invariant-frames l = record {
  at : (n : ℕ) (ds : Items) (rest : List Token)
      → converted of_items (items (value l.depth) n l.initial.reader)
      ≡ Some (ds, rest)
      → At (value l.depth) (frame_by l.share l.format l.components) l.frames.items l.number l.reader ds
      rest;
  passed : (n : ℕ) → length l.initial.reader ≤ n → Goes (value l.depth)
      (left (converted of_items (items (value l.depth) n l.initial.reader))) l.reader;
  few : l.number ≤ 1000;
  shorter : length l.reader ≤ length l.initial.reader;
}

abbrev pub decreases-frames : goal.decreases-frames
decreases-frames l = length l.reader
