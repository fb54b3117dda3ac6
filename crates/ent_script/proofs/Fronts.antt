-- Fronts of texts: of a text that is appended to, of one in printable ASCII, of one of which only
-- the first parts are looked at, and of one that is shown letter after letter or piece after piece.
use Rattle.ent_script.proofs.Common.{common_steps, flat_map-append, rules, ◌≡◌, ℕ, suc, ◌+◌, ◌≤◌}
use Rattle.ent_script.proofs.Common.{◌<◌, true, List, [], ◌∷◌, ◌++◌, length, take, sym, subst}
use Rattle.ent_script.proofs.Common.{arith, codes, append_assoc, inl, inr, slice_index, cut_to}
use Rattle.ent_script.proofs.Common.{floor_char_boundary, is_char_start, cond-true, cond-false}
use Rattle.ent_script.proofs.Common.{cases_lt, nat_tests, take-append-le, length-take-le}
use Rattle.ent_script.proofs.Common.{take_all, All-append, All-take, All-cons, All-nil}
use Rattle.ent_script.proofs.Common.{ArePrintable, IsPrintable, front, append-nil, length-append}
use Rattle.ent_script.proofs.Common.{flat_map, IsUtf8, nil_from_length, chars-nil}
use Rattle.ent_script.proofs.Common.{chars_past_char, encode_utf8, chars, ◌^◌, decimal, list_all}
use Rattle.ent_script.proofs.Common.{is_printable, plain, refl, and_parts, All-head, All-tail}
use Rattle.ent_script.proofs.Common.{All-weaker, chars-IsAscii, IsAscii-from_all}
use Rattle.ent_script.proofs.Common.{decimal_by_steps, char_text}

pub front-short : (text : List ℕ) → length text ≤ 60 → front text ≡ text
unfolding front
front-short text short = search (rules, cond-true)

pub front-long : (text : List ℕ) → 60 < length text → front text ≡ take 57 text ++ codes "..."
unfolding front
front-long text long = search (rules, cond-false)

-- what comes after a text that is cut makes no difference
front-past : (text more : List ℕ) → 60 < length text → front (text ++ more) ≡ front text
front-past text more long = rw (
  front-long (text ++ more) (omega (arith, length-append text more)),
  front-long text long,
  take-append-le 57 text more (omega arith),
) refl

length-cut : (text : List ℕ) → 60 < length text → length (take 57 text ++ codes "...") ≡ 60
length-cut text long =
    omega (arith, length-append (take 57 text) (codes "..."), length-take-le 57 text (omega arith))

-- what is cut stays as it is
front-cut : (text more : List ℕ) → 60 < length text
    → front ((take 57 text ++ codes "...") ++ more) ≡ take 57 text ++ codes "..."
front-cut text [] long = search (rules, front, append-nil, front-short, length-cut)
front-cut text (x ∷ xs) long =
    let cut = take 57 text ++ codes "..." in
    let len = length-take-le 57 text (omega arith) in
    let all = length-cut text long in
    rw (
      front-long (cut ++ x ∷ xs) (omega (arith, length-append cut (x ∷ xs))),
      take-append-le 57 cut (x ∷ xs) (omega arith),
      take-append-le 57 (take 57 text) (codes "...") (omega arith),
      take_all 57 (take 57 text) (omega arith),
    ) refl

pub length-front : (text : List ℕ) → length (front text) ≤ 60
length-front text = grind (arith, common_steps, front-long, front-short, length-cut)

pub front-more : (text more : List ℕ) → front (front text ++ more) ≡ front (text ++ more)
front-more text more = elim (cases_lt 60 (length text)) [
  | inl long ↦ search (rules, front-long, front-cut, front-past)
  | inr short ↦ search (rules, front-short)
]

dot-printable : IsPrintable 46
dot-printable = (omega arith, omega arith)

pub front-printable : (text : List ℕ) → ArePrintable text → ArePrintable (front text)
front-printable text h = elim (cases_lt 60 (length text)) [
  | inl long ↦ subst ArePrintable (sym (front-long text long))
      (search (rules, All-append, All-take, All-cons, dot-printable, All-nil))
  | inr short ↦ subst ArePrintable (sym (front-short text short)) h
]

cut_to-short : (text : List ℕ) → length text ≤ 60 → cut_to 60 text ≡ text
unfolding cut_to
cut_to-short text short = search (rules, cond-true)

boundary_at : (text : List ℕ) (i : ℕ) → is_char_start (slice_index text (suc i)) ≡ true
    → floor_char_boundary text (suc i) ≡ suc i
unfolding floor_char_boundary
boundary_at text i starts = search (rules, cond-true)

starts : (code : ℕ) → code ≤ 126 → is_char_start code ≡ true
starts code low = grind (arith, nat_tests)

cut_to-long : (text : List ℕ) → 60 < length text → floor_char_boundary text 57 ≡ 57
    → cut_to 60 text ≡ take 57 text ++ codes "..."
unfolding cut_to
cut_to-long text long at = search (rules, cond-false)

pub cut_is_front : (text : List ℕ) → ArePrintable text → cut_to 60 text ≡ front text
cut_is_front text h =
    search
    (rules, cases_lt, cut_to-long, cut_to-short, front-long, front-short, boundary_at, starts)

-- a piece after a piece
pub go_on : (old new piece more : List ℕ) → new ≡ front (old ++ piece)
    → front (new ++ more) ≡ front (old ++ (piece ++ more))
go_on old new piece more e = search (rules, front-more, append_assoc)

-- each part gives something, so parts past the sixtieth are not looked at
pub length-parts : (part : ℕ → List ℕ) → ((x : ℕ) → 0 < length (part x)) → (xs : List ℕ)
    → length xs ≤ length (flat_map part xs)
length-parts part some [] = omega arith
length-parts part some (x ∷ xs) = search (rules, length-append, length-parts part some xs)

pub front-of_parts : (part : ℕ → List ℕ) → ((x : ℕ) → 0 < length (part x)) → (xs ys : List ℕ)
    → 60 < length xs → front (flat_map part (xs ++ ys)) ≡ front (flat_map part xs)
front-of_parts part some xs ys long = search (rules, flat_map-append, front-past, length-parts)

-- ---- a text letter after letter

-- one more letter of a text that is shown after others
pub next_letter : (part : ℕ → List ℕ) (old new text rest all : List ℕ) (c : ℕ) → IsUtf8 text
    → text ≡ encode_utf8 c ++ rest → new ≡ front (old ++ part c)
    → front (old ++ flat_map part (chars text)) ≡ all
    → front (new ++ flat_map part (chars rest)) ≡ all
next_letter part old new text rest all c utf8 parts shown so_far =
    search (rules, go_on, chars_past_char)

-- and all of them
pub all_letters : (part : ℕ → List ℕ) (old text all : List ℕ) → length text ≡ 0 → length old ≤ 60
    → front (old ++ flat_map part (chars text)) ≡ all → old ≡ all
all_letters part old text all none short so_far =
    search (rules, nil_from_length, chars-nil, append-nil, front-short)

-- ---- pieces of a text that is shown, from nothing on

printable_from_test : (code : ℕ) → is_printable code ≡ true → IsPrintable code
printable_from_test code h = (grind (arith, nat_tests), grind (arith, nat_tests))

pub passes : (text : List ℕ) → list_all is_printable text ≡ true → ArePrintable text
passes xs h = grind (arith, common_steps, All-nil, and_parts, All-cons, printable_from_test)

digit : (n : ℕ) → n < 10 → ArePrintable ((48 + n) ∷ [])
digit n small = search (rules, All-cons, All-nil)

pub decimal-printable : (n : ℕ) → n < 2 ^ 64 → ArePrintable (decimal n)
decimal-printable n fits =
    decimal_by_steps (λ m text. ArePrintable text) digit (grind (arith, common_steps)) n fits

pub both : (a b : List ℕ) → ArePrintable a → ArePrintable b → ArePrintable (a ++ b)
both a b = All-append IsPrintable a b

pub three : (a b c : List ℕ) → ArePrintable a → ArePrintable b → ArePrintable c
    → ArePrintable (a ++ b ++ c)
three a b c first second third = search (rules, All-append)

single : (text : List ℕ) → ArePrintable text → flat_map char_text text ≡ text
single [] h = refl
single (x ∷ xs) h =
    search (rules, All-head, cond-true, All-tail, single xs (All-tail IsPrintable x xs h))

-- such a text is shown as it is
pub plain_same : (text : List ℕ) → ArePrintable text → plain text ≡ text
plain_same text h = search (rules, chars-IsAscii, IsAscii-from_all, All-weaker, single)

pub from_nothing : (nothing text new : List ℕ) → nothing ≡ [] → new ≡ front (nothing ++ text)
    → new ≡ front text
from_nothing nothing text new none e = search rules

pub more_text : (old new text : List ℕ) → ArePrintable text → new ≡ front (old ++ plain text)
    → new ≡ front (old ++ text)
more_text old new text h e = search (rules, front, plain_same)

pub two_pieces : (old mid new first second : List ℕ) → mid ≡ front (old ++ first)
    → new ≡ front (mid ++ second) → new ≡ front (old ++ (first ++ second))
two_pieces old mid new first second a b = search (rules, go_on)

-- ---- printable texts with more behind them

pub added : (old new words : List ℕ) → new ≡ old ++ words → list_all is_printable words ≡ true
    → ArePrintable old → ArePrintable new
added old new words e test h = search (rules, both, passes)

pub counted : (old mid new words : List ℕ) (n : ℕ) → mid ≡ old ++ words → new ≡ mid ++ decimal n
    → list_all is_printable words ≡ true → n < 2 ^ 64 → ArePrintable old → ArePrintable new
counted old mid new words n a b test fits h = search (rules, both, added, decimal-printable)
