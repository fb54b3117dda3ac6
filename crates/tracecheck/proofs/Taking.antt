-- Lines that end with a line feed, and the last, which may have no end. One more line is taken, or
-- shows what is to be said of the trace.
use Rattle.tracecheck.proofs.Common.{rules, ◌≡◌, ◌≢◌, ℕ, ◌<◌, eqb, false, List, [], ◌∷◌, ◌++◌}
use Rattle.tracecheck.proofs.Common.{length, All, refl, sym, ap, ◌∙◌, append_assoc, arith}
use Rattle.tracecheck.proofs.Common.{common_steps, cond-false, ne_eqb, append-nil, nil_from_length}
use Rattle.tracecheck.proofs.Common.{All-append, parts_whole, parts_first, parts_nonempty}
use Rattle.tracecheck.proofs.Common.{Allocator, ended, lines_of, without_return, HasRead, HasTaken}
use Rattle.tracecheck.proofs.Common.{Checking, cases_lt, ◌+◌, ◌^◌, ◌≤◌, Option, Some, None, Result}
use Rattle.tracecheck.proofs.Common.{Ok, Err, length-append, sum_by_push, AgreesWith, Checked}
use Rattle.tracecheck.proofs.Common.{Follows, IsTooMany, NoneFollows, Reaches, AllFollow, Shows}
use Rattle.tracecheck.proofs.Common.{begun, ReachesAll-next, requested_by, requested-next}
use Rattle.tracecheck.proofs.Common.{IsVerdict, StandsAt, agrees, asks_too_many, differs}
use Rattle.tracecheck.proofs.Common.{differs_in_all, is_none, line_of, words_of, Difference, Call}
use Rattle.tracecheck.proofs.Common.{Cause, Refused, calls_from, goes_on, given_in, requested_after}
use Rattle.tracecheck.proofs.Common.{requested_from, AskFew, IsAlone}
use Rattle.tracecheck.specs.declared.verdict.Verdict.TheVariants as verdict
use Rattle.tracecheck.specs.declared.verdict.Refusal.TheVariants as refusal

abbrev pub IsUnended : List ℕ → Type 0
IsUnended bytes = All (λ byte. byte ≢ 10) bytes

-- ---- a carriage return at the end

pub without_return-return : (front : List ℕ) → without_return (front ++ 13 ∷ []) ≡ front
without_return-return [] = refl
without_return-return (byte ∷ []) = refl
without_return-return (byte ∷ next ∷ more) = search (rules, without_return-return (next ∷ more))

pub without_return-other : (front : List ℕ) (last : ℕ) → last ≢ 13
    → without_return (front ++ last ∷ []) ≡ front ++ last ∷ []
without_return-other [] last other = search (rules, cond-false, ne_eqb)
without_return-other (byte ∷ []) last other = search (rules, without_return-other [] last other)
without_return-other (byte ∷ next ∷ more) last other =
    search (rules, without_return-other (next ∷ more) last other)

-- ---- lines

ended-cons : (part : List ℕ) (parts : List (List ℕ)) → 0 < length parts
    → ended (part ∷ parts) ≡ without_return part ∷ ended parts
ended-cons part more long = search rules

pub lines_first : (line others : List ℕ) → IsUnended line
    → lines_of (line ++ 10 ∷ others) ≡ without_return line ∷ lines_of others
lines_first line others all = ap ended (parts_first 10 (line ++ 10 ∷ others) line others refl all)
    ∙ ended-cons line _ (parts_nonempty 10 others)

pub lines_none : (bytes : List ℕ) → length bytes ≡ 0 → lines_of bytes ≡ []
lines_none bytes none = ap lines_of (nil_from_length bytes none)

pub lines_last : (line : List ℕ) → eqb (length line) 0 ≡ false → IsUnended line
    → lines_of line ≡ line ∷ []
lines_last line long all =
    ap ended (parts_whole 10 line all) ∙ cond-false (eqb (length line) 0) [] (line ∷ []) long

-- ---- what was read

pub cut_line : (begin : Allocator) (text : List ℕ) (old : Checking) (pending bytes : List ℕ)
    → IsUnended bytes → (h : HasRead begin text old pending) → (more : List ℕ)
    → lines_of (text ++ bytes ++ 10 ∷ more)
    ≡ h.texts ++ without_return (pending ++ bytes) ∷ lines_of more
cut_line begin text old pending bytes all h more =
    let unended = All-append (λ byte. byte ≢ 10) pending bytes h.unended all in
    rw (append_assoc, h.lines, ← append_assoc, lines_first) refl

pub HasRead-line : (begin : Allocator) (text : List ℕ) (old new : Checking) (pending bytes : List ℕ)
    → IsUnended bytes → (h : HasRead begin text old pending)
    → HasTaken begin (h.texts ++ without_return (pending ++ bytes) ∷ []) new
    → HasRead begin (text ++ bytes ++ 10 ∷ []) new []
HasRead-line begin text old new pending bytes all h taken = record {
  texts = h.texts ++ without_return (pending ++ bytes) ∷ [];
  taken = taken;
  unended = λ k d lt. absurd (omega (arith, lt));
  lines = λ more. let cut = cut_line begin text old pending bytes all h more in
      search (rules, append_assoc, cut);
}

-- all lines of the text, if nothing comes any more
pub lines_now : (begin : Allocator) (text : List ℕ) (old : Checking) (pending : List ℕ)
    → (h : HasRead begin text old pending) → lines_of text ≡ h.texts ++ lines_of pending
lines_now begin text old pending h =
    grind (arith, common_steps, append-nil text, append-nil pending, h.lines, h.texts)

-- and the last line has no end
pub lines_at_end : (begin : Allocator) (text : List ℕ) (old : Checking) (pending : List ℕ)
    → (h : HasRead begin text old pending) → eqb (length pending) 0 ≡ false
    → lines_of text ≡ h.texts ++ pending ∷ []
lines_at_end begin text old pending h long = lines_now begin text old pending h
    ∙ ap (λ (ls : List (List ℕ)). h.texts ++ ls) (lines_last pending long h.unended)

-- ---- a piece

-- one more line of the piece is taken
pub piece_front : (piece front rest line others : List ℕ) → piece ≡ front ++ rest
    → rest ≡ line ++ 10 ∷ others → piece ≡ (front ++ line ++ 10 ∷ []) ++ others
piece_front piece front rest line others whole parts = grind (arith, common_steps)

-- what comes after a line of a piece
pub piece_rest : (text piece front rest line others more : List ℕ) → piece ≡ front ++ rest
    → rest ≡ line ++ 10 ∷ others → text ++ piece ++ more
    ≡ text ++ front ++ line ++ 10 ∷ (others ++ more)
piece_rest text piece front rest line others more whole parts = grind (arith, common_steps)

-- ---- the calls of lines that follow others, and what follows after them

-- these calls, and then what is read after them
abbrev pub with_front : List Call → Result (List Call) Refused → Result (List Call) Refused
with_front front (Ok calls) = Ok (front ++ calls)
with_front front (Err refused) = Err refused

front_of_none : (r : Result (List Call) Refused) → with_front [] r ≡ r
front_of_none it = search rules

step : (number : ℕ) (r : Result (Option Call) Cause) (others all rest : Result (List Call) Refused)
    (calls : List Call) → ((front : List Call) → others ≡ Ok front → all ≡ with_front front rest)
    → goes_on number r others ≡ Ok calls → goes_on number r all ≡ with_front calls rest
step number (Ok None) others all rest calls later e = later calls e
step number (Ok (Some l)) (Ok front) all it calls later e = let is = later front refl in
    search rules
step number _ _ all rest calls later e = absurd cc

pub calls_from-append : (number : ℕ) (texts more : List (List ℕ)) (calls : List Call)
    → calls_from number texts ≡ Ok calls → calls_from number (texts ++ more)
    ≡ with_front calls (calls_from (number + length texts) more)
calls_from-append number [] more calls e = search (rules, front_of_none)
calls_from-append number (text ∷ texts) more calls e =
    let later : number + length (text ∷ texts) ≡ number + 1 + length texts = omega arith in
    rw later
    (step number (line_of number (words_of text)) _ _ _ calls
    (calls_from-append (number + 1) texts more) e)

-- ---- one more call

pub AllFollow-call : (old middle new : Checked) (calls : List Call) (l : Call)
    → AllFollow old calls middle → Follows middle l new → AllFollow old (calls ++ l ∷ []) new
AllFollow-call old middle new calls l follow next = grind (arith, common_steps)

-- what is requested with one more call
pub requested_from-append : (n : ℕ) (calls : List Call) (l : Call)
    → requested_from n (calls ++ l ∷ []) ≡ requested_after (requested_from n calls) l
requested_from-append n [] l = refl
requested_from-append n (x ∷ calls) l = requested_from-append (requested_after n x) calls l

-- so many are requested after all calls
pub AskFew-all : (n : ℕ) (calls : List Call) → AskFew n calls → requested_from n calls ≤ 2 ^ 50
AskFew-all n [] few = few
AskFew-all n (x ∷ calls) few = AskFew-all (requested_after n x) calls few.1

-- one more call
AskFew-next : (n : ℕ) (calls : List Call) (l : Call) → AskFew n calls
    → requested_after (requested_from n calls) l ≤ 2 ^ 50 → AskFew n (calls ++ l ∷ [])
AskFew-next n [] l few next = (few, next)
AskFew-next n (x ∷ calls) l few next = (few.0, AskFew-next (requested_after n x) calls l few.1 next)

requested_next : (old new : Checked) (l : Call) → Reaches old l new
    → requested_by new ≡ requested_after (requested_by old) l
requested_next old new it reaches = search (rules, requested-next)

few_next : (old : Checked) (l : Call) → requested_by old ≤ 2 ^ 50 → (IsTooMany old l → ⊥)
    → requested_after (requested_by old) l ≤ 2 ^ 50
few_next old it few more = search (rules, cases_lt, arith)

many_next : (old : Checked) (l : Call) → IsTooMany old l
    → 2 ^ 50 < requested_after (requested_by old) l
many_next old it many = search rules

-- the first lines were taken, and this text comes next, as the line of this number
module _ (begin : Allocator) (texts : List (List ℕ)) (text : List ℕ) (old : Checking) (number : ℕ)
    (next : number ≡ old.lines + 1) (h : HasTaken begin texts old) where
  next_call : (r : Result (Option Call) Cause) (more : Result (List Call) Refused)
      → line_of number (words_of text) ≡ r
      → goes_on number r (Ok []) ≡ more
      → calls_from 1 (texts ++ text ∷ []) ≡ with_front h.calls more
  next_call r more named gives =
      let here : number ≡ 1 + length texts = omega (arith, h.lines) in
      grind (
        arith,
        common_steps,
        calls_from-append 1 texts (text ∷ []) h.calls h.read,
        with_front h.calls,
      )

  -- a line without words
  pub HasTaken-none : (new : Checking) → new.lines ≡ number → new.given ≡ old.given
      → new.comparer ≡ old.comparer → line_of number (words_of text) ≡ Ok None
      → HasTaken begin (texts ++ text ∷ []) new
  HasTaken-none new lines given same named = record {
    calls = h.calls;
    read = next_call (Ok None) (Ok []) named refl
        ∙ ap (λ (ls : List Call). Ok ls) (append-nil h.calls);
    follow = rw same h.follow;
    reached = search rules;
    requested = rw same h.requested;
    few = h.few;
    lines = omega (arith, h.lines, length-append texts (text ∷ []));
    given = given ∙ h.given;
  }

  -- a call
  pub HasTaken-call : (new : Checking) (l : Call) → new.lines ≡ number
      → new.given ≡ old.given + given_in l → Follows old.comparer l new.comparer
      → Reaches old.comparer l new.comparer → (IsTooMany old.comparer l → ⊥)
      → line_of number (words_of text) ≡ Ok (Some l) → HasTaken begin (texts ++ text ∷ []) new
  HasTaken-call new l lines given follows reaches more named = record {
    calls = h.calls ++ l ∷ [];
    read = next_call (Ok (Some l)) (Ok (l ∷ [])) named refl;
    follow = AllFollow-call (begun begin) old.comparer new.comparer h.calls l h.follow follows;
    reached = ReachesAll-next (begun begin) old.comparer new.comparer h.calls l h.reached reaches;
    requested = requested_next old.comparer new.comparer l reaches
        ∙ ap (λ n. requested_after n l) h.requested
        ∙ sym (requested_from-append begin.asked h.calls l);
    few =
        let few : requested_by old.comparer ≤ 2 ^ 50 =
        rw h.requested (AskFew-all begin.asked h.calls h.few) in
        AskFew-next begin.asked h.calls l h.few
        (rw h.requested at (few_next old.comparer l few more));
    lines = omega (arith, h.lines, length-append texts (text ∷ []));
    given = omega (arith, h.given, given, sum_by_push given_in h.calls l);
  }

  module _ (after : List (List ℕ)) (l : Call)
      (named : line_of number (words_of text) ≡ Ok (Some l)) where
    stands : StandsAt (texts ++ text ∷ after) number h.calls l
    stands = search rules

    pub differs_here : (d : Difference) → IsAlone l → Shows old.comparer number (l ∷ []) d
        → NoneFollows old.comparer l → IsVerdict begin (texts ++ text ∷ after) (verdict.Differs d)
    differs_here d alone shows none = differs d (record {
      number = number;
      calls = h.calls;
      next = l;
      stands = stands;
      alone = alone;
      few = h.few;
      checked = old.comparer;
      reached = h.reached;
      shows = shows;
      none = λ rest a. none rest (h.follow.complete (l ∷ rest) a);
    })

    pub asks_here : IsTooMany old.comparer l → IsVerdict begin (texts ++ text ∷ after)
        (verdict.Refused number refusal.Requests)
    asks_here many = asks_too_many number (record {
      calls = h.calls;
      next = l;
      stands = stands;
      checked = old.comparer;
      reached = h.reached;
      few = h.few;
      many = search (rules, requested_from-append, many_next);
    })

  pub none_here : (after : List (List ℕ)) (c : Cause) → line_of number (words_of text) ≡ Err c
      → IsVerdict begin (texts ++ text ∷ after) (verdict.Refused number (refusal.Line c))
  none_here after c named =
      let here : number ≡ 1 + length texts = omega (arith, h.lines) in
      is_none number c
      (search (rules, calls_from-append 1 texts (text ∷ after) h.calls h.read, here)) (record {
        before = texts;
        after = text ∷ after;
        is = refl;
        number_is = omega (arith, h.lines);
        calls = h.calls;
        read = h.read;
        few = h.few;
        checked = old.comparer;
        reached = h.reached;
      })

-- ---- the end

pub agrees_in_all : (begin : Allocator) (texts : List (List ℕ)) (old : Checking)
    → AgreesWith old.comparer [] → HasTaken begin texts old
    → IsVerdict begin texts (verdict.Agrees old.lines old.given)
agrees_in_all begin texts old a h = search (rules, agrees, append-nil)

pub differs_at_end : (begin : Allocator) (texts : List (List ℕ)) (old : Checking) (d : Difference)
    → Shows old.comparer 0 [] d → (AgreesWith old.comparer [] → ⊥) → HasTaken begin texts old
    → IsVerdict begin texts (verdict.Differs d)
differs_at_end begin texts old d shows none h = differs_in_all d (record {
  calls = h.calls;
  read = h.read;
  few = h.few;
  checked = old.comparer;
  reached = h.reached;
  shows = shows;
  none = search (rules, append-nil);
})
