-- The positions that one reservation passed.
use Rattle.std.specs.Prelude.{pos, ◌-◌, ◌^◌, ◌-ℤ◌, ◌≤ℤ◌, neg_ℤ}
use Rattle.ent_alloc.specs.declared.span.Span.{Span}
use Rattle.ent_alloc.specs.Sequential.{Allocator, top}

-- The span may be that of a request to this allocator: the cursor was at the top or below it,
-- though not without end, and one request lowered it.
pub record IsSpanOf (s : Allocator) (span : Span) : Type 0 where
  pub least : neg_ℤ (pos (2 ^ 60)) ≤ℤ span.high
  pub passed : span.high ≤ℤ pos (top s)
  pub short : (span.high -ℤ pos (2 ^ 32 - 1)) ≤ℤ span.low
  pub ordered : span.low ≤ℤ span.high
