-- Lines and words: what stands before the first separator, and then the parts of what stands after
-- it; comments, blanks, a decimal in brackets, and handles with their spaces.
use Rattle.ent_replay.proofs.Common.{rules, ◌≡◌, ℕ, ◌+◌, ◌<◌, ◌≤◌, List, [], ◌∷◌, ◌++◌, length}
use Rattle.ent_replay.proofs.Common.{get_or, drop, max, refl, sym, ap, arith, common_steps}
use Rattle.ent_replay.proofs.Common.{append-nil, Handle, handle_text, handles_text, spaced}
use Rattle.ent_replay.proofs.Common.{length-append, ◌≢◌, Bool, true, false, not, eqb, take, All}
use Rattle.ent_replay.proofs.Common.{◌∙◌, before_first, slice_split_none, slice_split_at, is_blank}
use Rattle.ent_replay.proofs.Common.{words_in, before_comment, filter, All-head, All-tail, Err}
use Rattle.ent_replay.proofs.Common.{slice_split, nil_from_length, Word, count_in, number_told}
use Rattle.ent_replay.proofs.Common.{length-slice_split, without_empty_end, words_of, none, one}
use Rattle.ent_replay.proofs.Common.{eq-eqb, ne_eqb, nat_tests, join_with_byte}
use Rattle.ent_replay.proofs.Common.{join_with_byte-slice_split}
use Rattle.ent_replay.specs.declared.trace.read_fault.Cause.TheVariants as reply_cause
use Rattle.ent_replay.specs.declared.read_fault.Cause.TheVariants as cause
use Rattle.ent_replay.specs.ScheduleText.{lines_of}

abbrev pub IsWithout : ℕ → List ℕ → Type 0
IsWithout separator bytes = All (λ byte. byte ≢ separator) bytes

pub fails_at : (separator : ℕ) (bytes : List ℕ)
    → IsWithout separator bytes → All (λ byte. eqb byte separator ≡ false) bytes
fails_at separator bytes h k d lt = ne_eqb _ separator (h k d lt)

pub parts_whole : (separator : ℕ) (bytes : List ℕ) → IsWithout separator bytes
    → slice_split (λ byte. eqb byte separator) bytes ≡ bytes ∷ []
parts_whole separator bytes h = search (rules, slice_split_none, fails_at)

pub parts_first : (separator : ℕ) (bytes first others : List ℕ)
    → bytes ≡ first ++ separator ∷ others → IsWithout separator first
    → slice_split (λ byte. eqb byte separator) bytes
    ≡ first ∷ slice_split (λ byte. eqb byte separator) others
parts_first separator bytes first others e h = search (rules, slice_split_at, fails_at, eq-eqb)

-- there is always a part

pub parts_nonempty : (separator : ℕ) (bytes : List ℕ)
    → 0 < length (slice_split (λ byte. eqb byte separator) bytes)
parts_nonempty separator bytes = search (rules, length-slice_split)

-- ---- lines

pub without_empty_end-cons : (part : List ℕ) (parts : List (List ℕ)) → 0 < length parts
    → without_empty_end (part ∷ parts) ≡ part ∷ without_empty_end parts
without_empty_end-cons part more long = search rules

pub not_empty : (n : ℕ) → 0 < n → eqb n 0 ≡ false
not_empty n long = ne_eqb n 0 (λ e. absurd (omega (arith, e)))

pub lines_whole : (text : List ℕ) → 0 < length text → IsWithout 10 text → lines_of text ≡ text ∷ []
lines_whole text long h = search (rules, parts_whole 10 text h, not_empty (length text) long)

pub lines_first : (text line others : List ℕ) → text ≡ line ++ 10 ∷ others → IsWithout 10 line
    → lines_of text ≡ line ∷ lines_of others
lines_first text line others e h = cc
    (parts_first 10 text line others e h, without_empty_end-cons line _ (parts_nonempty 10 others))

-- ---- words

none_of_words : {A : Type 0} (x : A) (words : List (List ℕ)) → 0 < length words
    → none x words ≡ Err cause.Count
none_of_words x more long = search rules

pub none_after : {A : Type 0} (x : A) (line : List ℕ) → none x (words_of line) ≡ Err cause.Count
none_after x line = none_of_words x (words_of line) (parts_nonempty 32 line)

one_of_more : (word : List ℕ) (words : List (List ℕ)) → 0 < length words
    → one (word ∷ words) ≡ Err cause.Count
one_of_more word more long = search rules

pub one_after : (word line : List ℕ) → one (word ∷ words_of line) ≡ Err cause.Count
one_after word line = one_of_more word (words_of line) (parts_nonempty 32 line)

-- ---- what stands before the first element that passes

cut : (p : ℕ → Bool) (x : ℕ) (xs : List ℕ) → p x ≡ false
    → before_first p (x ∷ xs) ≡ x ∷ before_first p xs
cut p x xs fails = search (rules)

pub before_first_at : (p : ℕ → Bool) (xs : List ℕ) (y : ℕ) (ys : List ℕ) → All (λ x. p x ≡ false) xs
    → p y ≡ true → before_first p (xs ++ y ∷ ys) ≡ xs
before_first_at p [] y ys none passes = search rules
before_first_at p (x ∷ xs) y ys none passes =
    search (
      rules,
      cut,
      All-head,
      All-tail,
      before_first_at p xs y ys (All-tail (λ x. p x ≡ false) x xs none) passes,
    )

pub before_first_none : (p : ℕ → Bool) (xs : List ℕ) → All (λ x. p x ≡ false) xs
    → before_first p xs ≡ xs
before_first_none p [] none = refl
before_first_none p (x ∷ xs) none = search
    (rules, cut, All-head, before_first_none p xs (All-tail (λ x. p x ≡ false) x xs none))

pub no_comment : (line : List ℕ) → All (λ x. x ≢ 35) line → before_comment line ≡ line
no_comment line none = search (rules, before_first_none, fails_at)

-- ---- blanks and words

abbrev pub AreBlank : List ℕ → Type 0
AreBlank xs = All (λ x. is_blank x ≡ true) xs

abbrev pub AreNoBlank : List ℕ → Type 0
AreNoBlank xs = All (λ x. is_blank x ≡ false) xs

pub words_in-blank : (x : ℕ) (xs : List ℕ) → is_blank x ≡ true → words_in (x ∷ xs) ≡ words_in xs
words_in-blank x xs passes = grind (arith, common_steps)

pub words_in-blanks : (xs ys : List ℕ) → AreBlank xs → words_in (xs ++ ys) ≡ words_in ys
words_in-blanks [] ys all = refl
words_in-blanks (x ∷ xs) ys all =
    search (
      rules,
      words_in-blank,
      All-head,
      words_in-blanks xs ys (All-tail (λ x. is_blank x ≡ true) x xs all),
    )

kept : (word : List ℕ) (parts : List (List ℕ)) → 0 < length word
    → filter (λ w. not (eqb (length w) 0)) (word ∷ parts)
    ≡ word ∷ filter (λ w. not (eqb (length w) 0)) parts
kept word parts long = rw (not_empty (length word) long) refl

pub word_first : (word rest : List ℕ) → AreNoBlank word → AreBlank (take 1 rest) → 0 < length word
    → words_in (word ++ rest) ≡ word ∷ words_in rest
word_first word [] all next long = search (rules, append-nil, slice_split_none, kept)
word_first word (y ∷ ys) all next long =
    search (rules, slice_split_at, kept, words_in-blank, next 0 y)

-- a text that begins with no blank has a word at its front
pub word_long : (word rest : List ℕ) → AreNoBlank (take 1 (word ++ rest)) → AreBlank (take 1 rest)
    → 0 < length (word ++ rest) → 0 < length word
word_long word ys first next long = grind (arith, common_steps)

-- words that are more than an empty one after the first
not_closed : (count : Word) (more : List Word) → 0 < length (join_with_byte 41 more)
    → count_in (count ∷ more) ≡ Err reply_cause.Reply
not_closed count ([] ∷ []) long = absurd (omega arith)
not_closed count more long = search rules

pub never_closed : (text : List ℕ) → All (λ x. x ≢ 41) text
    → count_in (slice_split (λ byte. eqb byte 41) text) ≡ Err reply_cause.Reply
never_closed text none = simp parts_whole

pub closed_early : (text count others : List ℕ) → text ≡ count ++ 41 ∷ others
    → All (λ x. x ≢ 41) count → eqb (length others) 0 ≡ false
    → count_in (slice_split (λ byte. eqb byte 41) text) ≡ Err reply_cause.Reply
closed_early text count others is none long =
    let some : 0 < length others = grind (arith, nat_tests) in
    ap count_in (parts_first 41 _ _ _ is none)
    ∙ not_closed count _ (rw join_with_byte-slice_split some)

pub closed : (text count others : List ℕ) → text ≡ count ++ 41 ∷ others → All (λ x. x ≢ 41) count
    → length others ≡ 0 → count_in (slice_split (λ byte. eqb byte 41) text) ≡ number_told count
closed text count others is none last =
    search (rules, parts_first 41 _ _ _ is none, nil_from_length _ last)

-- ---- handles following one another, each with its space

-- the texts from a handle on begin with its own
pub length-spaced_drop : (handles : List Handle) (i : ℕ) (h : Handle) → i < length handles
    → h ≡ get_or handles i h → length (spaced (drop i handles))
    ≡ (1 + length (handle_text h)) + length (spaced (drop (i + 1) handles))
length-spaced_drop handles i h lt is = grind (arith, common_steps)

-- what is written and the next handle are no longer than all
pub spaced_fits : (old now : List ℕ) (handles : List Handle) (i : ℕ) (h : Handle)
    → i < length handles → h ≡ get_or handles i h
    → now ++ spaced (drop i handles) ≡ old ++ spaced handles
    → length now + (1 + length (handle_text h)) ≤ length old + length (spaced handles)
spaced_fits old now handles i h lt is e =
    let long = ap length e in grind (arith, common_steps, length-spaced_drop handles i h lt is)

-- the first handle, and then each with its space
pub handles_text-cons : (first : Handle) (others : List Handle)
    → handles_text (first ∷ others) ≡ handle_text first ++ spaced others
handles_text-cons first [] = sym (append-nil (handle_text first))
handles_text-cons first (next ∷ others) = search (rules, handles_text-cons next others)

-- such a line is as long as the texts with a space before each, and 1 without any
pub length-handles_text : (handles : List Handle)
    → length (handles_text handles) + 1 ≡ max (length (spaced handles)) 1
length-handles_text [] = refl
length-handles_text (h ∷ others) = search (rules, handles_text-cons, length-append)
