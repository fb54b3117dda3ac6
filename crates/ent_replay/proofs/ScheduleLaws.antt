-- An event is read from its own text and from no other.
use Rattle.ent_replay.proofs.Common.{cases_Bool, rules, ◌≡◌, ℕ, ◌^◌, ◌<◌, Bool, true, false, not}
use Rattle.ent_replay.proofs.Common.{cond, eqb, List, [], ◌∷◌, ◌++◌, All, Result, Ok, refl, sym}
use Rattle.ent_replay.proofs.Common.{arith, common_steps, codes, is_ascii_digit, decimal}
use Rattle.ent_replay.proofs.Common.{join_with_byte, list_all, slice_split, bytes_eq, and_parts}
use Rattle.ent_replay.proofs.Common.{and_from, slice_split_none, slice_split_at}
use Rattle.ent_replay.proofs.Common.{AllPass-from_list_all, Handle, IsHandle, handle_of}
use Rattle.ent_replay.proofs.Common.{handle_text, TextFault, plain_from_decimal, decimal_is_decimal}
use Rattle.ent_replay.proofs.Common.{number_found, number_of-decimal, handle_found, handle_of_text}
use Rattle.ent_replay.proofs.Common.{Event, Alloc, Free, Flush, Begin, Step, Answer, Cause, ◌>>=◌}
use Rattle.ent_replay.proofs.Common.{event_text, IsEvent, words_of, or_cause, number_word}
use Rattle.ent_replay.proofs.Common.{handle_word, none, one, two, begin_of, event_with, event_of}
use Rattle.ent_replay.proofs.Common.{append_assoc, ◌+◌, length, Err, append-nil, nil_from_length}
use Rattle.ent_replay.proofs.Common.{ReadFault, Line, events_of, ◌⊎◌, map, ap, ◌∙◌, inl, inr}
use Rattle.ent_replay.proofs.Common.{flat_map, onto_first, flat_map-map, join_with_byte-slice_split}
use Rattle.ent_replay.proofs.Common.{AreEvents, schedule_text, Spells, without_empty_end, goes_on}
use Rattle.ent_replay.proofs.Common.{schedule_of, ExplainsFault}
use Rattle.ent_replay.specs.declared.read_fault.Cause.TheVariants as cause
use Rattle.ent_replay.specs.ScheduleText.{lines_of}
use Rattle.ent_replay.proofs.ScheduleWords.{parts_nonempty, without_empty_end-cons}

-- ---- steps that did not fail

bind_ok : {A B : Type 0} (r : Result A Cause) (f : A → Result B Cause) (y : B) → (r >>= f) ≡ Ok y
    → (x : A) × (r ≡ Ok x) × (f x ≡ Ok y)
bind_ok it f y e = search rules

abbrev done : {A : Type 0} → A → Result A Cause
done x = Ok x

ok_is : {A : Type 0} (x y : A) → done x ≡ done y → x ≡ y
ok_is x y e = cc

or_cause_ok : {A : Type 0} (c : Cause) (r : Result A TextFault) (x : A) → or_cause c r ≡ Ok x
    → r ≡ Ok x
or_cause_ok c it x e = search (rules, ok_is)

two_ok : (words : List (List ℕ)) (pair : List ℕ × List ℕ) → two words ≡ Ok pair
    → words ≡ pair.0 ∷ pair.1 ∷ []
two_ok more pair h = search (rules, ok_is)

number_ok : (word : List ℕ) (n : ℕ) → number_word word ≡ Ok n → (n < 2 ^ 32) × (word ≡ decimal n)
number_ok word n e = let f = or_cause_ok _ _ n e in
    (grind (arith, common_steps), number_found _ _ (sym f))

handle_ok : (word : List ℕ) (h : Handle) → handle_word word ≡ Ok h
    → IsHandle h × (word ≡ handle_text h)
handle_ok word h e = handle_found word (Ok h) (sym (or_cause_ok cause.Handle (handle_of word) h e))

number_again : (n : ℕ) → n < 2 ^ 32 → number_word (decimal n) ≡ Ok n
number_again n small = simp number_of-decimal

handle_again : (h : Handle) → IsHandle h → handle_word (handle_text h) ≡ Ok h
handle_again h is = simp handle_of_text

-- ---- bytes that a text lacks

abbrev pub lacks : ℕ → List ℕ → Bool
lacks separator bytes = list_all (λ byte. not (eqb byte separator)) bytes

digits_lack : (separator : ℕ) (ds : List ℕ) → is_ascii_digit separator ≡ false
    → list_all is_ascii_digit ds ≡ true → lacks separator ds ≡ true
digits_lack separator [] h d = refl
digits_lack separator (c ∷ cs) h d =
    let p = and_parts _ _ d in grind (arith, common_steps, digits_lack separator cs h p.1)

decimal_lacks : (separator n : ℕ) → is_ascii_digit separator ≡ false → n < 2 ^ 64
    → lacks separator (decimal n) ≡ true
decimal_lacks separator n h small =
    search (rules, digits_lack, plain_from_decimal, decimal_is_decimal)

handle_lacks : (separator : ℕ) (h : Handle) → is_ascii_digit separator ≡ false
    → not (eqb 118 separator) ≡ true → IsHandle h → lacks separator (handle_text h) ≡ true
handle_lacks separator h digit letter is = grind (arith, common_steps, decimal_lacks, and_from)

-- no text of an event has a line feed
pub event_lacks : (event : Event) → IsEvent event → lacks 10 (event_text event) ≡ true
event_lacks it is = grind (arith, common_steps, handle_lacks, decimal_lacks)

lacks_all : (separator : ℕ) (bytes : List ℕ) → lacks separator bytes ≡ true
    → All (λ byte. eqb byte separator ≡ false) bytes
lacks_all separator bytes h k d lt =
    let other = AllPass-from_list_all (λ byte. not (eqb byte separator)) bytes h k d lt in
    search (rules, cases_Bool)

pub split_lacking : (separator : ℕ) (bytes : List ℕ) → lacks separator bytes ≡ true
    → slice_split (λ byte. eqb byte separator) bytes ≡ bytes ∷ []
split_lacking separator bytes h = search (rules, slice_split_none, lacks_all)

pub split_at_lacking : (separator : ℕ) (bytes others : List ℕ) → eqb separator separator ≡ true
    → lacks separator bytes ≡ true
    → slice_split (λ byte. eqb byte separator) (bytes ++ separator ∷ others)
    ≡ bytes ∷ slice_split (λ byte. eqb byte separator) others
split_at_lacking separator bytes others same h = search (rules, slice_split_at, lacks_all)

-- ---- what is read is spelled so

-- the words, with a space between
abbrev joined : List (List ℕ) → List ℕ
joined words = join_with_byte 32 words

abbrev IsRead : List (List ℕ) → Event → Type 0
IsRead words event = IsEvent event × (joined words ≡ event_text event)

module _ (word : List ℕ) (others : List (List ℕ)) (e : Event) where
  alone_found : (event : Event) → IsEvent event → word ≡ event_text event → none event others ≡ Ok e
      → IsRead (word ∷ others) e
  alone_found event fits is h = search (rules, ok_is)

  free_found : word ≡ codes "free" → (one others >>= handle_word >>= λ h. Ok (Free h)) ≡ Ok e
      → IsRead (word ∷ others) e
  free_found is h = search (rules, bind_ok _ (λ h. Ok (Free h)) e h, bind_ok, handle_ok, ok_is)

  -- a keyword with one number after it
  caller_found : (make : ℕ → Event) (keyword : List ℕ) → ((n : ℕ) → n < 2 ^ 32 → IsEvent (make n))
      → ((n : ℕ) → event_text (make n) ≡ keyword ++ 32 ∷ decimal n) → word ≡ keyword
      → (one others >>= number_word >>= λ caller. Ok (make caller)) ≡ Ok e
      → IsRead (word ∷ others) e
  caller_found make keyword fits text is h = search (rules, bind_ok, number_ok, ok_is)

  begin_found : word ≡ codes "begin" → begin_of others ≡ Ok e → IsRead (word ∷ others) e
  unfolding begin_of
  begin_found is h =
      let a =
      bind_ok (two others)
      (λ pair. number_word pair.0 >>= λ caller. number_word pair.1 >>= λ n. Ok _) e h in
      let b = bind_ok _ (λ caller. number_word a.0.1 >>= λ n. Ok _) e a.2 in
      let c = bind_ok _ (λ n. Ok _) e b.2 in
      let words = two_ok others a.0 a.1 in
      search (
        rules,
        number_ok a.0.0 b.0 b.1,
        number_ok a.0.1 c.0 c.1,
        ok_is _ e c.2,
        words,
        append_assoc,
      )

  -- one test of the first word
  tested : (keyword : List ℕ) (x y : Result Event Cause) → cond (bytes_eq word keyword) x y ≡ Ok e
      → (word ≡ keyword → x ≡ Ok e → IsRead (word ∷ others) e)
      → (y ≡ Ok e → IsRead (word ∷ others) e) → IsRead (word ∷ others) e
  tested keyword x y h found goes_on = search rules

  found : event_of (word ∷ others) ≡ Ok e → IsRead (word ∷ others) e
  unfolding event_with
  found h =
      tested _ _ _ h (alone_found Alloc tt)
      (λ h1. tested _ _ _ h1 (alone_found Flush tt)
      (λ h2. tested _ _ _ h2 free_found
      (λ h3. tested _ _ _ h3 begin_found
      (λ h4. tested _ _ _ h4 (caller_found (λ n. Step n) _ (λ n small. small) (λ n. refl))
      (λ h5. tested _ _ _ h5 (caller_found (λ n. Answer n) _ (λ n small. small) (λ n. refl))
      (λ unknown. absurd cc))))))

pub event_found : (words : List (List ℕ)) (e : Event) → event_of words ≡ Ok e → IsRead words e
event_found [] e h = absurd cc
event_found (word ∷ others) e h = found word others e h

-- ---- what is spelled so is read

pub event_again : (e : Event) → IsEvent e → event_of (words_of (event_text e)) ≡ Ok e
unfolding event_with begin_of
event_again Alloc is = refl
event_again (Free h) is =
    rw (split_lacking 32 (handle_text h) (handle_lacks 32 h refl refl is), handle_again h is) refl
event_again Flush is = refl
event_again (Begin caller n) is =
    let words : words_of (event_text (Begin caller n)) ≡ codes "begin" ∷ decimal caller
    ∷ decimal n ∷ [] = cc (
      append_assoc (decimal caller) (codes " ") (decimal n),
      split_at_lacking 32 (decimal caller) (decimal n) refl
          (decimal_lacks 32 caller refl (omega (arith, is.0))),
      split_lacking 32 _ (decimal_lacks 32 n refl (omega (arith, is.1))),
    ) in search (rules, number_of-decimal)
event_again (Step caller) is =
    rw (
      split_lacking 32 (decimal caller) (decimal_lacks 32 caller refl (omega (arith, is))),
      number_again caller is,
    ) refl
event_again (Answer caller) is =
    rw (
      split_lacking 32 (decimal caller) (decimal_lacks 32 caller refl (omega (arith, is))),
      number_again caller is,
    ) refl

-- ---- what is read is spelled so, what is spelled so is read, and a refused text has events up to
-- the line that is named; reading line after line, as a loop does

-- the events so far, and what is read after them
abbrev pub with_front : List Event → Result (List Event) ReadFault → Result (List Event) ReadFault
with_front front (Ok events) = Ok (front ++ events)
with_front front (Err fault) = Err fault

-- what is read from a rest of the text, after this many lines
abbrev pub read_from : ℕ → List ℕ → Result (List Event) ReadFault
read_from so_far rest = events_of (so_far + 1) (lines_of rest)

pub stops : (front : List Event) (so_far : ℕ) (rest line following : List ℕ) (c : Cause)
    (total : Result (List Event) ReadFault) → lines_of rest ≡ line ∷ lines_of following
    → event_of (words_of line) ≡ Err c → with_front front (read_from so_far rest) ≡ total
    → total ≡ Err (Line (so_far + 1) c)
stops front so_far rest line following c total split named invariant = search rules

pub ends : (front : List Event) (so_far : ℕ) (rest : List ℕ) (total : Result (List Event) ReadFault)
    → length rest ≡ 0 → with_front front (read_from so_far rest) ≡ total → total ≡ Ok front
ends front so_far rest total empty invariant = search (rules, nil_from_length, append-nil)

-- ---- lines of events

abbrev read_fault : ReadFault → Result (List Event) ReadFault
read_fault fault = Err fault

goes_on_ok : (line : ℕ) (r : Result Event Cause) (others : Result (List Event) ReadFault)
    (events : List Event) → goes_on line r others ≡ Ok events
    → (event : Event) × (rest : List Event) × (r ≡ Ok event) × (others ≡ Ok rest)
    × (event ∷ rest ≡ events)
goes_on_ok line it others events e = search rules

events_found : (number : ℕ) (lines : List (List ℕ)) (events : List Event)
    → events_of number lines ≡ Ok events → AreEvents events × (lines ≡ map event_text events)
events_found number [] events e = search (rules)
events_found number (line ∷ lines) events e =
    let g = goes_on_ok number (event_of (words_of line)) (events_of (number + 1) lines) events e in
    let first = event_found (words_of line) g.0 g.2 in
    search (
      rules,
      events_found (number + 1) lines g.1 g.3,
      join_with_byte-slice_split 32 line,
      g,
      first,
    )

events_again : (number : ℕ) (events : List Event) → AreEvents events
    → events_of number (map event_text events) ≡ Ok events
events_again number [] fits = refl
events_again number (event ∷ events) fits =
    search (rules, event_again, events_again (number + 1) events fits.1)

-- the first fault of lines that are numbered from this one on
record FaultAt (number : ℕ) (lines : List (List ℕ)) (fault : ReadFault) : Type 0 where
  before : List Event
  line : List ℕ
  rest : List (List ℕ)
  c : Cause
  parts : lines ≡ map event_text before ++ line ∷ rest
  is : fault ≡ Line (length before + number) c
  fits : AreEvents before
  why : event_of (words_of line) ≡ Err c

goes_on_err : (line : ℕ) (r : Result Event Cause) (others : Result (List Event) ReadFault)
    (fault : ReadFault) → goes_on line r others ≡ Err fault
    → ((c : Cause) × (r ≡ Err c) × (fault ≡ Line line c))
    ⊎ ((event : Event) × (r ≡ Ok event) × (others ≡ Err fault))
goes_on_err line it others fault e = search rules

events_refused : (number : ℕ) (lines : List (List ℕ)) (fault : ReadFault)
    → events_of number lines ≡ Err fault → FaultAt number lines fault
events_refused number [] fault e = absurd cc
events_refused number (line ∷ lines) fault e =
    elim (goes_on_err number (event_of (words_of line)) (events_of (number + 1) lines) fault e) [
      | inl here ↦
          let first : number ≡ length {A = Event} [] + number = omega arith in
          let is : fault ≡ Line (length {A = Event} [] + number) here.0 = cc (here.2, first) in
          record {
            before = [];
            line = line;
            rest = lines;
            c = here.0;
            parts = refl;
            is = is;
            fits = tt;
            why = here.1;
          }
      | inr later ↦
          let f = events_refused (number + 1) lines fault later.2 in
          let first = event_found (words_of line) later.0 later.1 in
          let text : line ≡ event_text later.0 = sym (join_with_byte-slice_split 32 line)
          ∙ first.1 in
          let next : length f.before + (number + 1) ≡ length (later.0 ∷ f.before) + number =
          omega arith in
          record {
            before = later.0 ∷ f.before;
            line = f.line;
            rest = f.rest;
            c = f.c;
            parts = search rules;
            is = cc (f.is, next);
            fits = (first.0, f.fits);
            why = f.why;
          }
    ]

-- ---- lines of a text

abbrev ended : List (List ℕ) → List ℕ
ended lines = flat_map (λ line. line ++ 10 ∷ []) lines

abbrev IsEnded : List ℕ → List (List ℕ) → Type 0
IsEnded text lines = (text ≡ ended lines) ⊎ (text ++ 10 ∷ [] ≡ ended lines)

parts_ended : (parts : List (List ℕ)) → 0 < length parts
    → IsEnded (join_with_byte 10 parts) (without_empty_end parts)
parts_ended [] long = absurd (omega arith)
parts_ended (part ∷ []) long = grind (arith, common_steps)
parts_ended (part ∷ next ∷ more) long =
    grind (arith, common_steps, parts_ended (next ∷ more) (omega arith))

-- a text has its lines
text_ended : (text : List ℕ) → IsEnded text (lines_of text)
text_ended text =
    rw (join_with_byte-slice_split 10 text) at (parts_ended _ (parts_nonempty 10 text))

ended_events : (events : List Event) → ended (map event_text events) ≡ schedule_text events
ended_events events = flat_map-map (λ line. line ++ 10 ∷ []) event_text events

-- ---- the lines of what is spelled

lines_of_schedule : (events : List Event) → AreEvents events
    → lines_of (schedule_text events) ≡ map event_text events
lines_of_schedule [] fits = refl
lines_of_schedule (event ∷ events) fits =
    let split =
    split_at_lacking 10 (event_text event) (schedule_text events) refl
    (event_lacks event fits.0) in
    let cut =
    without_empty_end-cons (event_text event) _ (parts_nonempty 10 (schedule_text events)) in
    cc (
      append_assoc (event_text event) (10 ∷ []) (schedule_text events),
      split,
      cut,
      lines_of_schedule events fits.1,
    )

abbrev is_end : ℕ → Bool
is_end byte = eqb byte 10

onto_first-append : (x : ℕ) (parts more : List (List ℕ)) → 0 < length parts
    → onto_first x (parts ++ more) ≡ onto_first x parts ++ more
onto_first-append x parts more long = search rules

-- a line feed after a text makes one more part, which is empty
split_ended : (text : List ℕ) → slice_split is_end (text ++ 10 ∷ [])
    ≡ slice_split is_end text ++ [] ∷ []
split_ended [] = refl
split_ended (x ∷ xs) =
    search (
      rules,
      cases_Bool,
      split_ended xs,
      onto_first-append x (slice_split is_end xs) ([] ∷ []) (parts_nonempty 10 xs),
    )

without_empty_end-ended : (parts : List (List ℕ)) → without_empty_end (parts ++ [] ∷ []) ≡ parts
without_empty_end-ended (part ∷ next ∷ more) = search (rules, without_empty_end-ended (next ∷ more))
without_empty_end-ended _ = refl

without_empty_end-events : (events : List Event)
    → without_empty_end (map event_text events) ≡ map event_text events
without_empty_end-events (event ∷ next ∷ events) =
    search (rules, without_empty_end-events (next ∷ events))
without_empty_end-events _ = grind (arith, common_steps)

lines_from_spelling : (text : List ℕ) (events : List Event) → AreEvents events → Spells events text
    → lines_of text ≡ map event_text events
lines_from_spelling text events fits (inl e) = simp (e, lines_of_schedule)
lines_from_spelling text events fits (inr e) =
    let ends = without_empty_end-ended (slice_split is_end text) in
    cc (ends, split_ended text, e, lines_of_schedule events fits, without_empty_end-events events)

-- ---- schedules

pub schedule_found : (text : List ℕ) (events : List Event) → schedule_of text ≡ Ok events
    → AreEvents events × Spells events text
schedule_found text events e =
    let f = events_found 1 (lines_of text) events e in search (rules, ended_events, text_ended)

pub schedule_again : (text : List ℕ) (events : List Event) → AreEvents events → Spells events text
    → schedule_of text ≡ Ok events
schedule_again text events fits spelled =
    cc (lines_from_spelling text events fits spelled, events_again 1 events fits)

first_fault : (text : List ℕ) (fault : ReadFault) → FaultAt 1 (lines_of text) fault
    → ExplainsFault text fault
first_fault text fault f = search (rules, event_again)

pub schedule_refused : (text : List ℕ) (fault : ReadFault) → schedule_of text ≡ Err fault
    → ExplainsFault text fault
schedule_refused text fault e = search (rules, first_fault, events_refused)
