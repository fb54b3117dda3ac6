-- Traces as text: lines and words, the one spelling of each call with its answer, and what a line
-- is read as.
use Rattle.std.specs.Prelude.{◌≡◌, ℕ, Bool, ◌&&◌, ◌||◌, not, List, [], ◌∷◌}
use Rattle.std.specs.Prelude.{◌++◌, length, map, ◌==◌, if◌then◌else◌, codes}
use Rattle.std.specs.Prelude.{Option, Some, None, Result, Ok, Err}
use Rattle.std.specs.Fmt.{decimal}
use Rattle.std.specs.List.{before_first, filter, flat_map, slice_split}
use Rattle.std.specs.Str.{bytes_eq}
use Rattle.ent_handle.specs.Handle.{Handle}
use Rattle.ent_handle.specs.Text.{handle_of, handle_text, number_of}
use Rattle.ent_handle.specs.declared.text.TextFault.{TextFault}
use Rattle.ent_alloc.specs.declared.state.State.{State}
use Rattle.ent_alloc.specs.declared.state.State.TheVariants as state
use Rattle.ent_replay.specs.declared.trace.reply.AllocReply.{AllocReply}
use Rattle.ent_replay.specs.declared.trace.reply.AllocReply.TheVariants as alloc
use Rattle.ent_replay.specs.declared.trace.reply.FreeReply.{FreeReply}
use Rattle.ent_replay.specs.declared.trace.reply.FreeReply.TheVariants as free
use Rattle.ent_replay.specs.declared.trace.reply.FlushReply.{FlushReply}
use Rattle.ent_replay.specs.declared.trace.reply.FlushReply.TheVariants as flush
use Rattle.ent_replay.specs.declared.trace.reply.ReserveReply.{ReserveReply}
use Rattle.ent_replay.specs.declared.trace.reply.ReserveReply.TheVariants as reserve
use Rattle.ent_replay.specs.declared.trace.call.Call.{Call}
use Rattle.ent_replay.specs.declared.trace.call.Call.TheVariants as line
use Rattle.ent_replay.specs.declared.trace.difference.Difference.{Difference}
use Rattle.ent_replay.specs.declared.trace.read_fault.Cause.{Cause}
use Rattle.ent_replay.specs.declared.trace.read_fault.Cause.TheVariants as cause
use Rattle.ent_replay.specs.declared.trace.read_fault.ReadFault.{ReadFault}
use Rattle.ent_replay.specs.declared.trace.read_fault.ReadFault.TheVariants as fault

-- a word
abbrev pub Word : Type 0
Word = List ℕ

-- ---- the spelling of calls and answers

abbrev pub alloc_words : AllocReply → List Word
alloc_words (alloc.Handle h) = handle_text h ∷ []
alloc_words alloc.Space = codes "space" ∷ []
alloc_words alloc.NeedsFlush = codes "needs" ∷ codes "flush" ∷ []

abbrev pub free_words : FreeReply → List Word
free_words free.Freed = codes "freed" ∷ []
free_words (free.Next h) = codes "freed" ∷ codes "next" ∷ handle_text h ∷ []
free_words free.Retired = codes "freed" ∷ codes "retired" ∷ []
free_words free.NotAlive = codes "not" ∷ codes "alive" ∷ []
free_words free.NeedsFlush = codes "needs" ∷ codes "flush" ∷ []

abbrev pub in_brackets : Word → Word
in_brackets word = codes "(" ++ word ++ codes ")"

abbrev pub flush_words : FlushReply → List Word
flush_words (flush.Born handles) = codes "born" ∷ map handle_text handles
flush_words (flush.Count count) = codes "born" ∷ in_brackets (decimal count) ∷ []

abbrev pub reserve_words : ReserveReply → List Word
reserve_words (reserve.Handles handles) = map handle_text handles
reserve_words reserve.Space = codes "space" ∷ []
reserve_words (reserve.SpaceLeft left) = codes "space" ∷ codes "left" ∷ decimal left ∷ []

abbrev pub state_words : State → List Word
state_words state.Alive = codes "alive" ∷ []
state_words state.Reserved = codes "reserved" ∷ []
state_words state.Gone = codes "gone" ∷ []

abbrev pub len_words : ℕ → List Word
len_words len = decimal len ∷ []

-- the word `=>` and the answer, if there is one
abbrev pub told_words : {A : Type 0} → (A → List Word) → Option A → List Word
told_words words None = []
told_words words (Some reply) = codes "=>" ∷ words reply

-- the words of a call and its answer
abbrev pub line_words : Call → List Word
line_words (line.Alloc told) = codes "alloc" ∷ told_words alloc_words told
line_words (line.Free h told) = codes "free" ∷ handle_text h ∷ told_words free_words told
line_words (line.Flush told) = codes "flush" ∷ told_words flush_words told
line_words (line.Reserve r) =
    codes "reserve" ∷ decimal r.caller ∷ decimal r.requested ∷ codes "=>" ∷ reserve_words r.reply
line_words (line.State h told) = codes "state" ∷ handle_text h ∷ told_words state_words told
line_words (line.Len told) = codes "len" ∷ told_words len_words told

-- the words of the answer alone
abbrev pub answer_words : Call → List Word
answer_words (line.Alloc (Some reply)) = alloc_words reply
answer_words (line.Free h (Some reply)) = free_words reply
answer_words (line.Flush (Some reply)) = flush_words reply
answer_words (line.Reserve r) = reserve_words r.reply
answer_words (line.State h (Some reply)) = state_words reply
answer_words (line.Len (Some reply)) = len_words reply
answer_words untold = []

-- ---- lines and words of a text

-- without a carriage return at the end
abbrev pub without_return : List ℕ → List ℕ
without_return [] = []
without_return (byte ∷ []) = if byte == 13 then [] else byte ∷ []
without_return (byte ∷ next ∷ more) = byte ∷ without_return (next ∷ more)

-- The lines, by the parts between the line feeds. A carriage return before a line feed is part of
-- the line's end. What follows the last line feed is a line if it isn't empty.
abbrev pub ended : List (List ℕ) → List (List ℕ)
ended [] = []
ended (last ∷ []) = if length last == 0 then [] else last ∷ []
ended (part ∷ next ∷ more) = without_return part ∷ ended (next ∷ more)

abbrev pub lines_of : List ℕ → List (List ℕ)
lines_of text = ended (slice_split (λ byte. byte == 10) text)

-- a space or a tab
abbrev pub is_blank : ℕ → Bool
is_blank byte = byte == 32 || byte == 9

-- what is between blanks
abbrev pub words_in : List ℕ → List Word
words_in text = filter (λ word. not (length word == 0)) (slice_split is_blank text)

-- a comment begins with `#`
abbrev pub before_comment : List ℕ → List ℕ
before_comment text = before_first (λ byte. byte == 35) text

abbrev pub words_of : List ℕ → List Word
words_of text = words_in (before_comment text)

-- ---- reading

infixl 10 ◌>>=◌
abbrev pub ◌>>=◌ : {A B : Type 0} → Result A Cause → (A → Result B Cause) → Result B Cause
(Ok x) >>= f = f x
(Err e) >>= f = Err e

-- a value that a text has, or this cause
abbrev pub or_cause : {A : Type 0} → Cause → Result A TextFault → Result A Cause
or_cause c (Ok x) = Ok x
or_cause c (Err fault) = Err c

abbrev pub number_word : Word → Result ℕ Cause
number_word word = or_cause cause.Number (number_of word)

abbrev pub handle_word : Word → Result Handle Cause
handle_word word = or_cause cause.Handle (handle_of word)

-- in an answer

abbrev pub number_told : Word → Result ℕ Cause
number_told word = or_cause cause.Reply (number_of word)

abbrev pub handle_told : Word → Result Handle Cause
handle_told word = or_cause cause.Reply (handle_of word)

abbrev pub and_then : List Handle → Result (List Handle) Cause → Result (List Handle) Cause
and_then front (Ok handles) = Ok (front ++ handles)
and_then front (Err c) = Err c

abbrev pub handles_with : Result Handle Cause → Result (List Handle) Cause
    → Result (List Handle) Cause
handles_with (Ok h) others = and_then (h ∷ []) others
handles_with (Err c) others = Err c

abbrev pub handles_told : List Word → Result (List Handle) Cause
handles_told [] = Ok []
handles_told (word ∷ others) = handles_with (handle_told word) (handles_told others)

-- ---- answers: each by its words

abbrev pub alloc_told : List Word → Result AllocReply Cause
alloc_told (word ∷ []) =
    if bytes_eq word (codes "space") then Ok alloc.Space
    else (handle_told word >>= λ h. Ok (alloc.Handle h))
alloc_told (first ∷ second ∷ []) =
    if bytes_eq first (codes "needs") && bytes_eq second (codes "flush") then Ok alloc.NeedsFlush
    else Err cause.Reply
alloc_told _ = Err cause.Reply

-- after the word `freed`
abbrev pub freed_told : List Word → Result FreeReply Cause
freed_told [] = Ok free.Freed
freed_told (word ∷ []) = if bytes_eq word (codes "retired") then Ok free.Retired
    else Err cause.Reply
freed_told (word ∷ next ∷ []) =
    if bytes_eq word (codes "next") then (handle_told next >>= λ h. Ok (free.Next h))
    else Err cause.Reply
freed_told _ = Err cause.Reply

abbrev pub unfreed_told : List Word → Result FreeReply Cause
unfreed_told (first ∷ second ∷ []) =
    if bytes_eq first (codes "not") && bytes_eq second (codes "alive") then Ok free.NotAlive
    else (if bytes_eq first (codes "needs") && bytes_eq second (codes "flush")
    then Ok free.NeedsFlush else Err cause.Reply)
unfreed_told _ = Err cause.Reply

abbrev pub free_told : List Word → Result FreeReply Cause
free_told [] = Err cause.Reply
free_told (word ∷ others) =
    if bytes_eq word (codes "freed") then freed_told others else unfreed_told (word ∷ others)

-- the decimal before a closing bracket that ends the word
abbrev pub count_in : List Word → Result ℕ Cause
count_in (count ∷ [] ∷ []) = number_told count
count_in _ = Err cause.Reply

-- a decimal in brackets
abbrev pub count_told : Word → Result ℕ Cause
count_told [] = Err cause.Reply
count_told (byte ∷ others) =
    if byte == 40 then count_in (slice_split (λ b. b == 41) others) else Err cause.Reply

-- after the word `born`
abbrev pub born_told : List Word → Result FlushReply Cause
born_told (word ∷ []) = counted (count_told word)
  where
    counted : Result ℕ Cause → Result FlushReply Cause
    counted (Ok count) = Ok (flush.Count count)
    counted (Err c) = handles_told (word ∷ []) >>= λ handles. Ok (flush.Born handles)
born_told words = handles_told words >>= λ handles. Ok (flush.Born handles)

abbrev pub flush_told : List Word → Result FlushReply Cause
flush_told [] = Err cause.Reply
flush_told (word ∷ others) =
    if bytes_eq word (codes "born") then born_told others else Err cause.Reply

-- after the word `space`
abbrev pub space_told : List Word → Result ReserveReply Cause
space_told [] = Ok reserve.Space
space_told (word ∷ left ∷ []) =
    if bytes_eq word (codes "left") then (number_told left >>= λ n. Ok (reserve.SpaceLeft n))
    else Err cause.Reply
space_told _ = Err cause.Reply

abbrev pub listed_told : List Word → Result ReserveReply Cause
listed_told words = handles_told words >>= λ handles. Ok (reserve.Handles handles)

abbrev pub reserve_told : List Word → Result ReserveReply Cause
reserve_told [] = listed_told []
reserve_told (word ∷ others) =
    if bytes_eq word (codes "space") then space_told others else listed_told (word ∷ others)

abbrev pub state_told : List Word → Result State Cause
state_told (word ∷ []) =
    if bytes_eq word (codes "alive") then Ok state.Alive
    else (if bytes_eq word (codes "reserved") then Ok state.Reserved
    else (if bytes_eq word (codes "gone") then Ok state.Gone else Err cause.Reply))
state_told _ = Err cause.Reply

abbrev pub len_told : List Word → Result ℕ Cause
len_told (word ∷ []) = number_told word
len_told _ = Err cause.Reply

-- an answer, if there is one
abbrev pub optional : {A : Type 0} → (List Word → Result A Cause) → Option (List Word)
    → Result (Option A) Cause
optional told None = Ok None
optional told (Some words) = told words >>= λ reply. Ok (Some reply)

-- an answer that has to be there
abbrev pub required : {A : Type 0} → (List Word → Result A Cause) → Option (List Word)
    → Result A Cause
required told None = Err cause.Reply
required told (Some words) = told words

-- ---- calls: the words before `=>`, and those after it

abbrev pub is_arrow : Word → Bool
is_arrow word = bytes_eq word (codes "=>")

abbrev pub before_arrow : List Word → List Word
before_arrow [] = []
before_arrow (word ∷ others) = if is_arrow word then [] else word ∷ before_arrow others

abbrev pub after_arrow : List Word → Option (List Word)
after_arrow [] = None
after_arrow (word ∷ others) = if is_arrow word then Some others else after_arrow others

-- as many words as a call has after its first
abbrev pub none : {A : Type 0} → A → List Word → Result A Cause
none x [] = Ok x
none x (word ∷ more) = Err cause.Count

abbrev pub one : {A : Type 0} → A → List Word → Result (Word × A) Cause
one x (word ∷ []) = Ok (word, x)
one x _ = Err cause.Count

abbrev pub two : {A : Type 0} → A → List Word → Result (Word × Word × A) Cause
two x (first ∷ second ∷ []) = Ok (first, second, x)
two x _ = Err cause.Count

-- the words of a call, and those of its answer if there is one
abbrev pub no_argument : List Word → Result (Option (List Word)) Cause
no_argument words = none (after_arrow words) (before_arrow words)

abbrev pub one_argument : List Word → Result (Word × Option (List Word)) Cause
one_argument words = one (after_arrow words) (before_arrow words)

abbrev pub two_arguments : List Word → Result (Word × Word × Option (List Word)) Cause
two_arguments words = two (after_arrow words) (before_arrow words)

unfoldable pub alloc_line : List Word → Result Call Cause
alloc_line words = do
  told ← no_argument words
  reply ← optional alloc_told told
  Ok (line.Alloc reply)

unfoldable pub free_line : List Word → Result Call Cause
free_line words = do
  call ← one_argument words
  h ← handle_word call.0
  reply ← optional free_told call.1
  Ok (line.Free h reply)

unfoldable pub flush_line : List Word → Result Call Cause
flush_line words = do
  told ← no_argument words
  reply ← optional flush_told told
  Ok (line.Flush reply)

unfoldable pub reserve_line : ℕ → List Word → Result Call Cause
reserve_line number words = do
  call ← two_arguments words
  caller ← number_word call.0
  requested ← number_word call.1
  reply ← required reserve_told call.2
  Ok (line.Reserve (record {
    number = number;
    caller = caller;
    requested = requested;
    reply = reply;
  }))

unfoldable pub state_line : List Word → Result Call Cause
state_line words = do
  call ← one_argument words
  h ← handle_word call.0
  reply ← optional state_told call.1
  Ok (line.State h reply)

unfoldable pub len_line : List Word → Result Call Cause
len_line words = do
  told ← no_argument words
  reply ← optional len_told told
  Ok (line.Len reply)

-- The call of a first word and those after it, or the first test that they fail: the first word,
-- the count of words, the numbers from the left, the handle, the answer. The number is the line's.
unfoldable pub call_of : ℕ → Word → List Word → Result Call Cause
call_of number word others =
    if bytes_eq word (codes "reserve") then reserve_line number others
    else (if bytes_eq word (codes "alloc") then alloc_line others
    else (if bytes_eq word (codes "free") then free_line others
    else (if bytes_eq word (codes "flush") then flush_line others
    else (if bytes_eq word (codes "state") then state_line others
    else (if bytes_eq word (codes "len") then len_line others
    else Err cause.Word)))))

-- the call of a line, if it has words
abbrev pub line_of : ℕ → List Word → Result (Option Call) Cause
line_of number [] = Ok None
line_of number (word ∷ others) = call_of number word others >>= λ l. Ok (Some l)

-- ---- what the reader's parts give

-- what was returned, seen by view, is this
abbrev pub ReadsAsView : {X Y : Type 0} → (X → Y) → Result X Cause → Result Y Cause → Type 0
ReadsAsView view (Ok x) read = read ≡ Ok (view x)
ReadsAsView view (Err c) read = read ≡ Err c

-- what reading returned is this, unless memory ran out
abbrev pub ReadsAs : {X : Type 0} → Result X ReadFault → Result X Cause → Type 0
ReadsAs (Ok x) read = read ≡ Ok x
ReadsAs (Err (fault.Cause c)) read = read ≡ Err c
ReadsAs (Err fault.Memory) read = Unit {0}

-- the word that names a cause
abbrev pub cause_text : Cause → List ℕ
cause_text cause.Word = codes "word"
cause_text cause.Count = codes "count"
cause_text cause.Number = codes "number"
cause_text cause.Handle = codes "handle"
cause_text cause.Reply = codes "reply"

-- ---- a line as text

-- a space before each word
abbrev pub spaced : List Word → List ℕ
spaced words = flat_map (λ word. 32 ∷ word) words

-- the words with one space between
abbrev pub joined : List Word → List ℕ
joined [] = []
joined (word ∷ others) = word ++ spaced others

abbrev pub line_text : Call → List ℕ
line_text l = joined (line_words l)

-- the number of the call, the call as it was, and what the allocator answers
abbrev pub difference_text : Difference → List ℕ
difference_text d =
    codes "differs line " ++ decimal d.number ++ codes ": " ++ line_text d.told
    ++ codes ", expected" ++ spaced (answer_words d.expected)
