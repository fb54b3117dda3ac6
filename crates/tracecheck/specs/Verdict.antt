-- What is said of a trace, and when.
use Rattle.std.specs.Prelude.{⊤, ◌≡◌, ℕ, ◌+◌, ◌^◌, ◌<◌, ℤ, List, [], ◌∷◌, ◌++◌, length, map, codes}
use Rattle.std.specs.Prelude.{◌==◌, if◌then◌else◌, Some, Ok, Err}
use Rattle.std.specs.Fmt.{decimal, signed_decimal}
use Rattle.std.specs.List.{sum_by}
use Rattle.ent_handle.specs.Handle.{Handle}
use Rattle.ent_handle.specs.Text.{handle_text}
use Rattle.ent_alloc.specs.Sequential.{Allocator}
use Rattle.ent_replay.specs.Checker.{Checked, ReachesAll, Shows}
use Rattle.tracecheck.specs.Beginning.{begun}
use Rattle.ent_replay.specs.Trace.{Agrees, IsAlone}
use Rattle.ent_replay.specs.Text.{Word, cause_text, difference_text, line_of, spaced}
use Rattle.ent_replay.specs.Text.{words_of}
use Rattle.ent_replay.specs.declared.trace.difference.Difference.{Difference}
use Rattle.ent_replay.specs.declared.trace.check_error.CheckError.{CheckError}
use Rattle.ent_replay.specs.declared.trace.check_error.CheckError.TheVariants as stop
use Rattle.ent_replay.specs.declared.trace.call.Call.{Call}
use Rattle.ent_replay.specs.declared.trace.read_fault.Cause.{Cause}
use Rattle.tracecheck.specs.Calls.{AskFew, calls_from, given_in, requested_from}
use Rattle.tracecheck.specs.declared.checking.End.{End}
use Rattle.tracecheck.specs.declared.checking.End.TheVariants as end
use Rattle.tracecheck.specs.declared.verdict.Refusal.{Refusal}
use Rattle.tracecheck.specs.declared.verdict.Refusal.TheVariants as refusal
use Rattle.tracecheck.specs.declared.verdict.Verdict.{Verdict}
use Rattle.tracecheck.specs.declared.verdict.Verdict.TheVariants as verdict

-- The lines before this one have these calls, and this one has a call too.
pub record StandsAt (lines : List (List ℕ)) (number : ℕ) (calls : List Call) (next : Call)
    : Type 0 where
  pub before : List (List ℕ)
  pub text : List ℕ
  pub after : List (List ℕ)
  pub is : lines ≡ before ++ text ∷ after
  pub number_is : number ≡ length before + 1
  pub read : calls_from 1 before ≡ Ok calls
  pub named : line_of number (words_of text) ≡ Ok (Some next)

-- The lines before the one of this number are calls that were taken.
pub record AreTaken (begin : Allocator) (lines : List (List ℕ)) (number : ℕ) : Type 0 where
  pub before : List (List ℕ)
  pub after : List (List ℕ)
  pub is : lines ≡ before ++ after
  pub number_is : number ≡ length before + 1
  pub calls : List Call
  pub read : calls_from 1 before ≡ Ok calls
  pub few : AskFew begin.asked calls
  pub checked : Checked
  pub reached : ReachesAll (begun begin) calls checked

-- The calls before this line were taken. With its call, which is no reservation, the difference
-- shows, and no trace that goes on after it agrees.
pub record DiffersAt (begin : Allocator) (lines : List (List ℕ)) (d : Difference) : Type 0 where
  pub number : ℕ
  pub calls : List Call
  pub next : Call
  pub stands : StandsAt lines number calls next
  pub alone : IsAlone next
  pub few : AskFew begin.asked calls
  pub checked : Checked
  pub reached : ReachesAll (begun begin) calls checked
  pub shows : Shows checked number (next ∷ []) d
  pub none : (rest : List Call) → Agrees (begin) (calls ++ next ∷ rest) → ⊥

-- All calls were taken. At the end of the trace the difference shows.
pub record DiffersInAll (begin : Allocator) (lines : List (List ℕ)) (d : Difference) : Type 0 where
  pub calls : List Call
  pub read : calls_from 1 lines ≡ Ok calls
  pub few : AskFew begin.asked calls
  pub checked : Checked
  pub reached : ReachesAll (begun begin) calls checked
  pub shows : Shows checked 0 [] d
  pub none : Agrees (begin) calls → ⊥

-- The calls before this line were taken. Only with its call more was requested since the last flush
-- than an allocator counts.
pub record AsksAt (begin : Allocator) (lines : List (List ℕ)) (number : ℕ) : Type 0 where
  pub calls : List Call
  pub next : Call
  pub stands : StandsAt lines number calls next
  pub checked : Checked
  pub reached : ReachesAll (begun begin) calls checked
  pub few : AskFew begin.asked calls
  pub many : 2 ^ 50 < requested_from begin.asked (calls ++ next ∷ [])

-- What may be said of the trace of these lines. Nothing else is said once more was requested than
-- an allocator counts.
pub data IsVerdict (begin : Allocator) (lines : List (List ℕ)) : Verdict → Type 0 where
  -- they are a trace, and it agrees
  agrees : (calls : List Call) → calls_from 1 lines ≡ Ok calls → AskFew begin.asked calls
      → Agrees (begin) calls
      → IsVerdict begin lines (verdict.Agrees (length lines) (sum_by given_in calls))
  differs : (d : Difference) → DiffersAt begin lines d → IsVerdict begin lines (verdict.Differs d)
  differs_in_all : (d : Difference) → DiffersInAll begin lines d
      → IsVerdict begin lines (verdict.Differs d)
  -- the first line that is none, and its first fault
  is_none : (number : ℕ) (cause : Cause) → calls_from 1 lines ≡ Err (number, cause)
      → AreTaken begin lines number
      → IsVerdict begin lines (verdict.Refused number (refusal.Line cause))
  asks_too_many : (number : ℕ) → AsksAt begin lines number
      → IsVerdict begin lines (verdict.Refused number refusal.Requests)

-- what may be said, unless memory ran out
abbrev pub MayEnd : Allocator → List (List ℕ) → End → Type 0
MayEnd begin lines (end.Verdict v) = IsVerdict begin lines v
MayEnd begin lines end.Memory = ⊤

-- what a stop at the line of this number says
abbrev pub end_of : ℕ → CheckError → End
end_of number (stop.Differs d) = end.Verdict (verdict.Differs d)
end_of number stop.TooMany = end.Verdict (verdict.Refused number refusal.Requests)
end_of number stop.Memory = end.Memory

-- ---- the text that says it

abbrev pub refusal_text : Refusal → List ℕ
refusal_text (refusal.Line cause) = cause_text cause
refusal_text refusal.Requests = codes "requests"

-- The front of a pool. It shows 8 handles at most, so there may be more after 8.
abbrev pub pool_words : List Handle → List Word
pool_words [] = codes "empty" ∷ []
pool_words (h ∷ front) =
    map handle_text (h ∷ front) ++ (if length (h ∷ front) == 8 then codes ".." ∷ [] else [])

-- the state in which a line differs
abbrev pub state_text : List Handle → ℤ → List ℕ
state_text front at =
    codes "pool" ++ spaced (pool_words front) ++ codes ", cursor " ++ signed_decimal at
    ++ codes "\n"

abbrev pub difference_lines : Difference → List ℕ
difference_lines d = difference_text d ++ codes "\n" ++ state_text d.front d.cursor

abbrev pub verdict_text : Verdict → List ℕ
verdict_text (verdict.Agrees lines given) =
    codes "agrees: " ++ decimal lines ++ codes " lines, " ++ decimal given
    ++ codes " handles given\n"
verdict_text (verdict.Differs d) = difference_lines d
verdict_text (verdict.Refused line r) =
    codes "refused line " ++ decimal line ++ codes " " ++ refusal_text r ++ codes "\n"
