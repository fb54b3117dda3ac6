use Rattle.tracecheck.proofs.Common.{◌≡◌, ◌++◌, List, ℕ, length, Allocator, HasRead}
use Rattle.tracecheck.proofs.lines.feed.Given as goal

-- the front of the piece was read, and this is the rest
abbrev pub invariant-loop-line : goal.invariant-loop-line
invariant-loop-line l = (front : List ℕ) × (l.fn.piece ≡ front ++ l.rest)
    × ((begin : Allocator) (text : List ℕ) → HasRead begin text l.fn.checking l.fn.pending.items
    → HasRead begin (text ++ front) l.checking l.pending.items)

abbrev pub decreases-loop-line : goal.decreases-loop-line
decreases-loop-line l = length l.rest
