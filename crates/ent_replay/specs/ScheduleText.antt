-- Schedules as text: lines and words, the one spelling of each event, and what a text is read as.
use Rattle.std.specs.Prelude.{◌≡◌, ◌≢◌, ℕ, ◌+◌, ◌^◌, ◌<◌, ◌⊎◌, List, [], ◌∷◌, ◌++◌, length, map}
use Rattle.std.specs.Prelude.{◌==◌, if◌then◌else◌, codes, Option, Some, None, Result, Ok, Err}
use Rattle.std.specs.Fmt.{decimal}
use Rattle.std.specs.Global.{Vec}
use Rattle.std.specs.List.{AllByRecursion, flat_map, slice_split}
use Rattle.std.specs.Str.{bytes_eq}
use Rattle.ent_handle.specs.Handle.{Handle, IsHandle}
use Rattle.ent_handle.specs.Text.{handle_of, handle_text, number_of}
use Rattle.ent_handle.specs.declared.text.TextFault.{TextFault}
use Rattle.ent_replay.specs.declared.event.Event.{Event}
use Rattle.ent_replay.specs.declared.event.Event.TheVariants.{Alloc, Free, Flush, Begin, Step}
use Rattle.ent_replay.specs.declared.event.Event.TheVariants.{Answer}
use Rattle.ent_replay.specs.declared.read_fault.Cause.{Cause}
use Rattle.ent_replay.specs.declared.read_fault.Cause.TheVariants as cause
use Rattle.ent_replay.specs.declared.read_fault.ReadFault.{ReadFault}
use Rattle.ent_replay.specs.declared.read_fault.ReadFault.TheVariants.{Line, Memory}

-- ---- the spelling of events

-- the words of an event, with one space between
abbrev pub event_text : Event → List ℕ
event_text Alloc = codes "alloc"
event_text (Free h) = codes "free " ++ handle_text h
event_text Flush = codes "flush"
event_text (Begin caller n) = codes "begin " ++ decimal caller ++ codes " " ++ decimal n
event_text (Step caller) = codes "step " ++ decimal caller
event_text (Answer caller) = codes "answer " ++ decimal caller

-- its numbers are in range
abbrev pub IsEvent : Event → Type 0
IsEvent Alloc = Unit {0}
IsEvent (Free h) = IsHandle h
IsEvent Flush = Unit {0}
IsEvent (Begin caller n) = (caller < 2 ^ 32) × (n < 2 ^ 32)
IsEvent (Step caller) = caller < 2 ^ 32
IsEvent (Answer caller) = caller < 2 ^ 32

abbrev pub AreEvents : List Event → Type 0
AreEvents events = AllByRecursion IsEvent events

-- a line for each event, and a line feed after each
abbrev pub schedule_text : List Event → List ℕ
schedule_text events = flat_map (λ event. event_text event ++ 10 ∷ []) events

-- the text has these lines; the line feed after the last may be missing
abbrev pub Spells : List Event → List ℕ → Type 0
Spells events text = (text ≡ schedule_text events) ⊎ (text ++ 10 ∷ [] ≡ schedule_text events)

-- ---- lines and words

-- the parts, but for an empty one at the end
abbrev pub without_empty_end : List (List ℕ) → List (List ℕ)
without_empty_end [] = []
without_empty_end (part ∷ []) = if length part == 0 then [] else part ∷ []
without_empty_end (part ∷ next ∷ more) = part ∷ without_empty_end (next ∷ more)

-- what is between the line feeds, and after the last of them if that is not empty
abbrev pub lines_of : List ℕ → List (List ℕ)
lines_of text = without_empty_end (slice_split (λ byte. byte == 10) text)

-- what is between the spaces
abbrev pub words_of : List ℕ → List (List ℕ)
words_of line = slice_split (λ byte. byte == 32) line

-- ---- reading

infixl 10 ◌>>=◌
abbrev pub ◌>>=◌ : {A B : Type 0} → Result A Cause → (A → Result B Cause) → Result B Cause
(Ok x) >>= f = f x
(Err e) >>= f = Err e

-- a value that a text has, or this cause
abbrev pub or_cause : {A : Type 0} → Cause → Result A TextFault → Result A Cause
or_cause c (Ok x) = Ok x
or_cause c (Err fault) = Err c

abbrev pub number_word : List ℕ → Result ℕ Cause
number_word word = or_cause cause.Number (number_of word)

abbrev pub handle_word : List ℕ → Result Handle Cause
handle_word word = or_cause cause.Handle (handle_of word)

-- as many words as an event has after its first
abbrev pub none : {A : Type 0} → A → List (List ℕ) → Result A Cause
none x [] = Ok x
none x (word ∷ more) = Err cause.Count

abbrev pub one : List (List ℕ) → Result (List ℕ) Cause
one (word ∷ []) = Ok word
one _ = Err cause.Count

abbrev pub two : List (List ℕ) → Result (List ℕ × List ℕ) Cause
two (first ∷ second ∷ []) = Ok (first, second)
two _ = Err cause.Count

unfoldable pub begin_of : List (List ℕ) → Result Event Cause
begin_of words = do
  pair ← two words
  caller ← number_word pair.0
  n ← number_word pair.1
  Ok (Begin caller n)

-- the event of a first word and those after it, or the first test that they fail:
-- the first word, the count of words, the numbers from the left, the handle
unfoldable pub event_with : List ℕ → List (List ℕ) → Result Event Cause
event_with word others =
    if bytes_eq word (codes "alloc") then none Alloc others
    else (if bytes_eq word (codes "flush") then none Flush others
    else (if bytes_eq word (codes "free") then (one others >>= handle_word >>= λ h. Ok (Free h))
    else (if bytes_eq word (codes "begin") then begin_of others
    else (if bytes_eq word (codes "step")
    then (one others >>= number_word >>= λ caller. Ok (Step caller))
    else (if bytes_eq word (codes "answer")
    then (one others >>= number_word >>= λ caller. Ok (Answer caller))
    else Err cause.Word)))))

-- the event of a line's words
abbrev pub event_of : List (List ℕ) → Result Event Cause
event_of [] = Err cause.Word
event_of (word ∷ others) = event_with word others

-- the event of a line before those of the lines after it
abbrev pub goes_on : ℕ → Result Event Cause → Result (List Event) ReadFault
    → Result (List Event) ReadFault
goes_on line (Err c) others = Err (Line line c)
goes_on line (Ok event) (Ok events) = Ok (event ∷ events)
goes_on line (Ok event) (Err fault) = Err fault

-- the events of lines that are numbered from this one on, or the first line that names none
abbrev pub events_of : ℕ → List (List ℕ) → Result (List Event) ReadFault
events_of line [] = Ok []
events_of line (words ∷ more) = goes_on line (event_of (words_of words)) (events_of (line + 1) more)

-- the events of a text, or its first fault
abbrev pub schedule_of : List ℕ → Result (List Event) ReadFault
schedule_of text = events_of 1 (lines_of text)

-- the word that names a cause
abbrev pub line_cause_text : Cause → List ℕ
line_cause_text cause.Word = codes "word"
line_cause_text cause.Count = codes "count"
line_cause_text cause.Number = codes "number"
line_cause_text cause.Handle = codes "handle"

-- ---- what the reader's parts give

-- the words after a first one, if anything follows it
abbrev pub words_after : Option (List ℕ) → List (List ℕ)
words_after None = []
words_after (Some others) = words_of others

-- what was returned, seen by view, is this
abbrev pub ReadsAsView : {X Y : Type 0} → (X → Y) → Result X Cause → Result Y Cause → Type 0
ReadsAsView view (Ok x) read = read ≡ Ok (view x)
ReadsAsView view (Err c) read = read ≡ Err c

-- what reading returned is this, unless memory ran out
abbrev pub ReadsAsSchedule : Result (Vec Event) ReadFault → Result (List Event) ReadFault → Type 0
ReadsAsSchedule (Ok events) read = read ≡ Ok events.items
ReadsAsSchedule (Err (Line line c)) read = read ≡ Err (Line line c)
ReadsAsSchedule (Err Memory) read = Unit {0}

-- the lines before this one name events, and this one names none, for this cause
pub record IsFirstFault (text : List ℕ) (line : ℕ) (c : Cause) : Type 0 where
  pub before : List Event
  pub refused : List ℕ
  pub following : List (List ℕ)
  pub lines : lines_of text ≡ map event_text before ++ refused ∷ following
  pub position : line ≡ length before + 1
  pub events : AreEvents before
  pub why : event_of (words_of refused) ≡ Err c
  pub spells_none : (event : Event) → IsEvent event → refused ≢ event_text event

abbrev pub ExplainsFault : List ℕ → ReadFault → Type 0
ExplainsFault text (Line line c) = IsFirstFault text line c
ExplainsFault text Memory = Unit {0}
