-- The calls of a text, line by line, and how many handles they say were given out.
use Rattle.std.specs.Prelude.{ℕ, ◌+◌, ◌^◌, ◌≤◌, List, [], ◌∷◌, length}
use Rattle.std.specs.Prelude.{Option, Some, None, Result, Ok, Err}
use Rattle.ent_replay.specs.Text.{line_of, lines_of, words_of}
use Rattle.ent_replay.specs.declared.trace.read_fault.Cause.{Cause}
use Rattle.ent_replay.specs.declared.trace.call.Call.{Call}
use Rattle.ent_replay.specs.declared.trace.call.Call.TheVariants as line
use Rattle.ent_replay.specs.declared.trace.reply.AllocReply.TheVariants as alloc
use Rattle.ent_replay.specs.declared.trace.reply.ReserveReply.{ReserveReply}
use Rattle.ent_replay.specs.declared.trace.reply.ReserveReply.TheVariants as reserve

-- the number of a line that is none, and why
abbrev pub Refused : Type 0
Refused = ℕ × Cause

-- the call of a line, if it has words, before those of the lines after it
abbrev pub goes_on : ℕ → Result (Option Call) Cause → Result (List Call) Refused
    → Result (List Call) Refused
goes_on number (Err c) others = Err (number, c)
goes_on number (Ok None) others = others
goes_on number (Ok (Some l)) (Ok calls) = Ok (l ∷ calls)
goes_on number (Ok (Some l)) (Err refused) = Err refused

-- the calls of lines that are numbered from this one on, or the first line that is none
abbrev pub calls_from : ℕ → List (List ℕ) → Result (List Call) Refused
calls_from number [] = Ok []
calls_from number (text ∷ more) =
    goes_on number (line_of number (words_of text)) (calls_from (number + 1) more)

-- the calls of a whole text
abbrev pub trace_of : List ℕ → Result (List Call) Refused
trace_of text = calls_from 1 (lines_of text)

abbrev pub listed_in : ReserveReply → ℕ
listed_in (reserve.Handles handles) = length handles
listed_in other = 0

-- how many handles a call says were given out
abbrev pub given_in : Call → ℕ
given_in (line.Alloc (Some (alloc.Handle h))) = 1
given_in (line.Reserve r) = listed_in r.reply
given_in other = 0

-- how many handles were requested since the last flush, after one more call
abbrev pub requested_after : ℕ → Call → ℕ
requested_after n (line.Reserve r) = n + r.requested
requested_after n (line.Flush told) = 0
requested_after n other = n

-- how many handles these calls request after their last flush; that many were requested before them
abbrev pub requested_from : ℕ → List Call → ℕ
requested_from n [] = n
requested_from n (l ∷ calls) = requested_from (requested_after n l) calls

-- after none of these calls more was requested since the last flush than an allocator counts
abbrev pub AskFew : ℕ → List Call → Type 0
AskFew n [] = n ≤ 2 ^ 50
AskFew n (l ∷ calls) = (n ≤ 2 ^ 50) × AskFew (requested_after n l) calls
