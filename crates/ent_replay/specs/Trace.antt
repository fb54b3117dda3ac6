-- Traces: what was called and what was answered, and when one sequential allocator could have
-- answered so.
use Rattle.std.specs.Prelude.{◌≡◌, ◌≢◌, nat_lt, if◌then◌else◌, List, [], ◌∷◌, ◌++◌, length}
use Rattle.std.specs.Prelude.{Option, Some, None, Result, Ok, Err, IfSome}
use Rattle.std.specs.List.{AllByRecursion}
use Rattle.std.specs.FinSet as set
use Rattle.ent_handle.specs.Handle.{Handle}
use Rattle.ent_alloc.specs.Sequential.{Allocator, reply_to, born, next, state_of}
use Rattle.ent_alloc.specs.Sequential.{after_take, after_flush, after_alloc, after_free}
use Rattle.ent_alloc.specs.declared.space.Space.{Space}
use Rattle.ent_replay.specs.declared.trace.reply.AllocReply.{AllocReply}
use Rattle.ent_replay.specs.declared.trace.reply.AllocReply.TheVariants as alloc
use Rattle.ent_replay.specs.declared.trace.reply.FreeReply.{FreeReply}
use Rattle.ent_replay.specs.declared.trace.reply.FreeReply.TheVariants as free
use Rattle.ent_replay.specs.declared.trace.reply.FlushReply.{FlushReply}
use Rattle.ent_replay.specs.declared.trace.reply.FlushReply.TheVariants as flush
use Rattle.ent_replay.specs.declared.trace.reply.ReserveReply.{ReserveReply}
use Rattle.ent_replay.specs.declared.trace.reply.ReserveReply.TheVariants as reserve
use Rattle.ent_replay.specs.declared.trace.call.Call.{Call}
use Rattle.ent_replay.specs.declared.trace.call.Call.TheVariants as line

-- ---- what the allocator answers, and the state after it

abbrev pub front_reply : List Handle → AllocReply
front_reply [] = alloc.Space
front_reply (h ∷ pool) = alloc.Handle h

abbrev pub alloc_reply : Allocator → AllocReply
alloc_reply s = if nat_lt 0 s.asked then alloc.NeedsFlush else front_reply s.pool

abbrev pub freed_reply : Option Handle → FreeReply
freed_reply None = free.Retired
freed_reply (Some h) = free.Next h

abbrev pub free_reply : Allocator → Handle → FreeReply
free_reply s h =
    if nat_lt 0 s.asked then free.NeedsFlush else
    (if set.contains s.live h then freed_reply (next s.limits h) else free.NotAlive)

-- the state after the front of the pool came to life
abbrev pub after_front : Allocator → List Handle → Allocator
after_front s [] = s
after_front s (h ∷ pool) = after_alloc s h

abbrev pub after_line : Allocator → Call → Allocator
after_line s (line.Alloc told) = if nat_lt 0 s.asked then s else after_front s s.pool
after_line s (line.Free h told) =
    if nat_lt 0 s.asked then s else (if set.contains s.live h then after_free s h else s)
after_line s (line.Flush told) = after_flush s
after_line s (line.Reserve r) = after_take s r.requested
after_line s (line.State h told) = s
after_line s (line.Len told) = s

-- ---- what was written against it

-- `freed` alone says nothing about the next handle
abbrev pub FitsFreed : FreeReply → FreeReply → Type 0
FitsFreed free.Freed (free.Next h) = Unit {0}
FitsFreed free.Freed free.Retired = Unit {0}
FitsFreed free.Freed other = ⊥
FitsFreed told given = told ≡ given

-- a list, or how long it is
abbrev pub FitsBorn : FlushReply → List Handle → Type 0
FitsBorn (flush.Born told) given = told ≡ given
FitsBorn (flush.Count told) given = told ≡ length given

-- a list, or a refusal, perhaps with how many were left
abbrev pub FitsReserved : ReserveReply → Result (List Handle) Space → Type 0
FitsReserved (reserve.Handles told) (Ok given) = told ≡ given
FitsReserved (reserve.Handles told) (Err space) = ⊥
FitsReserved reserve.Space (Ok given) = ⊥
FitsReserved reserve.Space (Err space) = Unit {0}
FitsReserved (reserve.SpaceLeft told) (Ok given) = ⊥
FitsReserved (reserve.SpaceLeft told) (Err space) = told ≡ space.left

-- The answer that a line has is the allocator's. A line may have no answer.
abbrev pub Fits : Allocator → Call → Type 0
Fits s (line.Alloc told) = IfSome told (λ reply. reply ≡ alloc_reply s)
Fits s (line.Free h told) = IfSome told (λ reply. FitsFreed reply (free_reply s h))
Fits s (line.Flush told) = IfSome told (λ reply. FitsBorn reply (born s))
Fits s (line.Reserve r) = FitsReserved r.reply (reply_to s r.requested)
Fits s (line.State h told) = IfSome told (λ state. state ≡ state_of s h)
Fits s (line.Len told) = IfSome told (λ len. len ≡ set.len s.live)

abbrev pub reserve_reply : Result (List Handle) Space → ReserveReply
reserve_reply (Ok given) = reserve.Handles given
reserve_reply (Err space) = reserve.SpaceLeft space.left

-- the same call with what the allocator answers
abbrev pub answered_line : Allocator → Call → Call
answered_line s (line.Alloc told) = line.Alloc (Some (alloc_reply s))
answered_line s (line.Free h told) = line.Free h (Some (free_reply s h))
answered_line s (line.Flush told) = line.Flush (Some (flush.Born (born s)))
answered_line s (line.Reserve r) =
    line.Reserve (record r { reply = reserve_reply (reply_to s r.requested) })
answered_line s (line.State h told) = line.State h (Some (state_of s h))
answered_line s (line.Len told) = line.Len (Some (set.len s.live))

-- each line in turn fits
abbrev pub AreAnswered : Allocator → List Call → Type 0
AreAnswered s [] = Unit {0}
AreAnswered s (l ∷ lines) = Fits s l × AreAnswered (after_line s l) lines

abbrev pub after_lines : Allocator → List Call → Allocator
after_lines s [] = s
after_lines s (l ∷ lines) = after_lines (after_line s l) lines

-- ---- which order they came in

-- nothing overlaps this line
abbrev pub IsAlone : Call → Type 0
IsAlone (line.Reserve r) = ⊥
IsAlone other = Unit {0}

-- The first may have come before the second, although it is listed after it: both are reservations,
-- of different callers.
abbrev pub MayPass : Call → Call → Type 0
MayPass (line.Reserve r) (line.Reserve before) = before.caller ≢ r.caller
MayPass (line.Reserve r) other = ⊥
MayPass l other = ⊥

-- The second list has the lines of the first in an order that they may have come in: each is taken
-- out of what is left, past lines that it may pass.
abbrev pub IsOrderOf : List Call → List Call → Type 0
IsOrderOf lines [] = lines ≡ []
IsOrderOf lines (l ∷ order) =
    (before : List Call) × (after : List Call) × (lines ≡ before ++ l ∷ after)
    × AllByRecursion (MayPass l) before
    × IsOrderOf (before ++ after) order

-- A trace agrees with the sequential allocator in this state: in some order of its lines each
-- reply is the allocator's.
pub record Agrees (s : Allocator) (lines : List Call) : Type 0 where
  pub order : List Call
  pub is_order : IsOrderOf lines order
  pub answered : AreAnswered s order
