-- A trace with which more is requested since a flush than an allocator counts has one verdict:
-- nothing else is said past the line. The edits `past_..` in must-fail/ let a verdict go past it.
use Rattle.tracecheck.proofs.Common.{rules, arith, ◌≡◌, ◌+◌, ◌^◌, ◌<◌, ◌≤◌, ◌∙◌, ℕ, List, [], ◌∷◌}
use Rattle.tracecheck.proofs.Common.{◌++◌, length, refl, sym, ap, subst, inl, inr, Option, None}
use Rattle.tracecheck.proofs.Common.{Some, Result, Ok, Err, append-nil, Allocator, Call, Cause}
use Rattle.tracecheck.proofs.Common.{Difference, Verdict, Agrees, AgreesWith, AllFollow, Checked}
use Rattle.tracecheck.proofs.Common.{Follows, IsAlone, IsVerdict, Reaches, ReachesAll, AsksAt}
use Rattle.tracecheck.proofs.Common.{DiffersAt, StandsAt, agrees, asks_too_many, differs}
use Rattle.tracecheck.proofs.Common.{differs_in_all, is_none, begun, AskFew, Refused, calls_from}
use Rattle.tracecheck.proofs.Common.{goes_on, line_of, requested_after, requested_from, words_of}
use Rattle.tracecheck.proofs.Common.{called-Follows, parted, run_more}
use Rattle.tracecheck.proofs.Taking.{AskFew-all, calls_from-append, requested_from-append}
use Rattle.tracecheck.proofs.Taking.{with_front}
use Rattle.ent_replay.specs.declared.trace.call.Call.TheVariants as line
use Rattle.tracecheck.specs.declared.verdict.Verdict.TheVariants as verdict
use Rattle.tracecheck.specs.declared.verdict.Refusal.TheVariants as refusal

-- ---- what the lines up to one of them say

-- more lines begin with the calls of the first ones
record GoesOn (front : List Call) (next : Call) (calls : List Call) : Type 0 where
  pub rest : List Call
  pub is : calls ≡ front ++ next ∷ rest

with_next : (front calls : List Call) (next : Call) (r : Result (List Call) Refused)
    → with_front front (goes_on 0 (Ok (Some next)) r) ≡ Ok calls → GoesOn front next calls
with_next front calls next (Ok rest) e = record { rest = rest; is = cc }
with_next front calls next (Err refused) e = absurd cc

module _ (before : List (List ℕ)) (text : List ℕ) (after : List (List ℕ)) (front : List Call)
    (next : Call)
    (read : calls_from 1 before ≡ Ok front)
    (named : line_of (length before + 1) (words_of text) ≡ Ok (Some next)) where
  all_lines : calls_from 1 (before ++ text ∷ after)
      ≡ with_front front (goes_on 0 (Ok (Some next)) (calls_from (length before + 2) after))
  all_lines =
      let here : 1 + length before ≡ length before + 1 = omega arith in
      let there : length before + 1 + 1 ≡ length before + 2 = omega arith in
      calls_from-append 1 before (text ∷ after) front read ∙ rw (here, named, there) refl

  begin_so : (calls : List Call) → calls_from 1 (before ++ text ∷ after) ≡ Ok calls
      → GoesOn front next calls
  begin_so calls e =
      with_next front calls next (calls_from (length before + 2) after) (sym all_lines ∙ e)

-- ---- no more is asked for

few_at : (n : ℕ) (front rest : List Call) (next : Call) → AskFew n (front ++ next ∷ rest)
    → requested_from n (front ++ next ∷ []) ≤ 2 ^ 50
few_at n [] [] next few = few.1
few_at n [] (x ∷ rest) next few = few.1.0
few_at n (x ∷ front) rest next few = few_at (requested_after n x) front rest next few.1

few_alone : (n : ℕ) (calls : List Call) (next : Call) → IsAlone next → AskFew n calls
    → requested_from n (calls ++ next ∷ []) ≤ 2 ^ 50
few_alone n calls next alone few =
    let all = AskFew-all n calls few in
    rw requested_from-append (kept (requested_from n calls) next alone all)
  where
    kept : (m : ℕ) (l : Call) → IsAlone l → m ≤ 2 ^ 50 → requested_after m l ≤ 2 ^ 50
    kept m it alone few = search (rules, arith)

-- ---- a call that was taken is one of a trace that agrees

Reaches-Follows : (old new : Checked) (l : Call) → Reaches old l new → Follows old l new
Reaches-Follows old new (line.Reserve r) is = record {
  sound = λ rest agrees. rw (is, run_more old.run r rest) at agrees;
  complete = λ rest agrees. rw (is, run_more old.run r rest) agrees;
}
Reaches-Follows old new l (at, settled, fits, is) =
    subst (Follows old l) (sym is) (called-Follows old l at tt settled fits)

reached-follow : (lines : List Call) (old new : Checked) → ReachesAll old lines new
    → AllFollow old lines new
reached-follow [] old new is = search rules
reached-follow (l ∷ lines) old new (next, reaches, more) =
    let first = Reaches-Follows old next l reaches in
    let others = reached-follow lines next new more in
    record {
      sound = λ rest agrees. first.sound (lines ++ rest) (others.sound rest agrees);
      complete = λ rest agrees. others.complete rest (first.complete (lines ++ rest) agrees);
    }

empty_run : (old new : Checked) (l : Call) → IsAlone l → Reaches old l new → new.run ≡ []
empty_run old new it alone reaches = search (rules, ap)

-- the calls up to one that nothing overlaps
reached_front : (front rest : List Call) (next : Call) (old new : Checked) → IsAlone next
    → ReachesAll old (front ++ next ∷ rest) new
    → (middle : Checked) × ReachesAll old (front ++ next ∷ []) middle × (middle.run ≡ [])
reached_front [] rest next old new alone (middle, reaches, more) =
    (middle, (middle, reaches, refl), empty_run old middle next alone reaches)
reached_front (x ∷ front) rest next old new alone (second, first, more) =
    let later = reached_front front rest next second new alone more in
    (later.0, (second, first, later.1), later.2)

agrees_with_none : (c : Checked) → c.run ≡ [] → AgreesWith c []
agrees_with_none c none = record { order = []; is_order = rw none refl; answered = tt }

reached_agrees : (begin : Allocator) (front rest : List Call) (next : Call) (new : Checked)
    → IsAlone next → ReachesAll (begun begin) (front ++ next ∷ rest) new
    → Agrees begin (front ++ next ∷ [])
reached_agrees begin front rest next new alone reached =
    let middle = reached_front front rest next (begun begin) new alone reached in
    let follow = reached-follow (front ++ next ∷ []) (begun begin) middle.0 middle.1 in
    rw append-nil at (follow.sound [] (agrees_with_none middle.0 middle.2))

-- ---- the line that asks for too many, and another one

-- lines that reach further have this line
reaches_past : {X : Type 0} (before after early late : List X) (x : X)
    → before ++ x ∷ after ≡ early ++ late → length before < length early
    → (more : List X) × (early ≡ before ++ x ∷ more)
reaches_past [] after [] late x e past = absurd (omega arith)
reaches_past [] after (y ∷ early) late x e past = (early, cc)
reaches_past (b ∷ before) after [] late x e past = absurd (omega arith)
reaches_past (b ∷ before) after (y ∷ early) late x e past =
    let others = reaches_past before after early late x (cc) (omega (arith, past)) in
    (others.0, cc others.1)

-- the number of the line that is none
none_past : (number from : ℕ) (texts : List (List ℕ)) (cause : Cause)
    → calls_from from texts ≡ Err (number, cause) → from ≤ number
none_past number from [] cause e = absurd cc
none_past number from (text ∷ texts) cause e =
    this (line_of from (words_of text)) (calls_from (from + 1) texts) e
    (λ more. omega (arith, none_past number (from + 1) texts cause more))
  where
    this : (r : Result (Option Call) Cause) (others : Result (List Call) Refused)
        → goes_on from r others ≡ Err (number, cause)
        → (others ≡ Err (number, cause) → from ≤ number) → from ≤ number
    this (Err c) others e later = omega (arith, ap first e)
      where
        first : Result (List Call) Refused → ℕ
        first (Ok calls) = from
        first (Err refused) = refused.0
    this (Ok None) others e later = later e
    this (Ok (Some l)) (Ok calls) e later = absurd cc
    this (Ok (Some l)) (Err refused) e later = later e

module _ (lines : List (List ℕ)) (number : ℕ) (front : List Call) (next : Call)
    (at : StandsAt lines number front next) where
  -- the line is one of those before another one, too
  one_of : (early more : List (List ℕ)) → early ≡ at.before ++ at.text ∷ more
      → StandsAt early number front next
  one_of early more is = record {
    before = at.before;
    text = at.text;
    after = more;
    is = is;
    number_is = at.number_is;
    read = at.read;
    named = at.named;
  }

  named_at : line_of (length at.before + 1) (words_of at.text) ≡ Ok (Some next)
  named_at = rw at.number_is at at.named

  all_calls : (calls : List Call) → calls_from 1 lines ≡ Ok calls → GoesOn front next calls
  all_calls calls e =
      begin_so at.before at.text at.after front next at.read named_at calls (rw at.is at e)

  -- a line that is none comes later
  none_later : (other : ℕ) (cause : Cause) → calls_from 1 lines ≡ Err (other, cause)
      → number < other
  none_later other cause e =
      let past = none_past other (length at.before + 2) at.after cause
      (err_next front next _ (other, cause)
      (sym (all_lines at.before at.text at.after front next at.read named_at)
      ∙ rw at.is at e)) in omega (arith, past, at.number_is)
    where
      err_next : (front : List Call) (next : Call) (r : Result (List Call) Refused)
          (refused : Refused) → with_front front (goes_on 0 (Ok (Some next)) r) ≡ Err refused
          → r ≡ Err refused
      err_next front next (Ok rest) refused e = absurd cc
      err_next front next (Err same) refused e = e

module _ (begin : Allocator) (lines : List (List ℕ)) (number : ℕ)
    (asks : AsksAt begin lines number) where
  -- no calls that have this line ask for few
  not_few : (early : List (List ℕ)) (calls : List Call) → StandsAt early number asks.calls asks.next
      → calls_from 1 early ≡ Ok calls → AskFew begin.asked calls → ⊥
  not_few early calls at read few =
      let goes = all_calls early number asks.calls asks.next at calls read in
      let most : requested_from begin.asked (asks.calls ++ asks.next ∷ []) ≤ 2 ^ 50 =
      few_at begin.asked asks.calls goes.rest asks.next (rw goes.is at few) in
      omega (arith, most, asks.many)

  -- nor do those before a later line
  none_later_few : (early more : List (List ℕ)) (calls : List Call)
      → early ≡ asks.stands.before ++ asks.stands.text ∷ more → calls_from 1 early ≡ Ok calls
      → AskFew begin.asked calls → ⊥
  none_later_few early more calls is =
      not_few early calls (one_of lines number asks.calls asks.next asks.stands early more is)

  not_alone : IsAlone asks.next → ⊥
  not_alone alone =
      let most = few_alone begin.asked asks.calls asks.next alone asks.few in
      omega (arith, most, asks.many)

  -- a line before it doesn't differ
  no_difference : (d : Difference) → DiffersAt begin lines d → ⊥
  no_difference d at =
      let one = asks.stands in
      let other = at.stands in
      elim
      (parted one.before one.after other.before other.after one.text other.text
      (sym one.is ∙ other.is)) [
        | inl p ↦
            let goes = all_calls one.before at.number at.calls at.next
            (one_of lines at.number at.calls at.next other one.before p.more p.front_is) asks.calls
            one.read in
            at.none [] (reached_agrees begin at.calls goes.rest at.next asks.checked at.alone
            (rw goes.is at asks.reached))
        | inr (inl p) ↦
            let same : at.next ≡ asks.next = same_next p.before_is p.is in
            not_alone (rw same at at.alone)
        | inr (inr p) ↦ none_later_few other.before p.more at.calls p.before_is other.read at.few
      ]
    where
      same_next : at.stands.before ≡ asks.stands.before → at.stands.text ≡ asks.stands.text
          → at.next ≡ asks.next
      same_next before text =
          let mine = named_at lines number asks.calls asks.next asks.stands in
          let other = named_at lines at.number at.calls at.next at.stands in
          cc (before, text, mine, other)

-- What is said of a trace is said of this line, and is that too many are requested.
pub nothing_else : (begin : Allocator) (lines : List (List ℕ)) (number : ℕ)
    → (asks : AsksAt begin lines number) → (v : Verdict) → IsVerdict begin lines v
    → v ≡ verdict.Refused number refusal.Requests
nothing_else begin lines number asks _ (agrees calls read few a) =
    absurd (not_few begin lines number asks lines calls asks.stands read few)
nothing_else begin lines number asks _ (differs d at) =
    absurd (no_difference begin lines number asks d at)
nothing_else begin lines number asks _ (differs_in_all d at) =
    absurd (not_few begin lines number asks lines at.calls asks.stands at.read at.few)
nothing_else begin lines number asks _ (is_none other cause e taken) =
    let later = none_later lines number asks.calls asks.next asks.stands other cause e in
    let one = asks.stands in
    let long : length one.before < length taken.before =
    omega (arith, later, one.number_is, taken.number_is) in
    let past =
    reaches_past one.before one.after taken.before taken.after one.text (sym one.is ∙ taken.is)
    long in
    absurd
    (none_later_few begin lines number asks taken.before past.0 taken.calls past.1 taken.read
    taken.few)
nothing_else begin lines number asks _ (asks_too_many other more) =
    let one = asks.stands in
    let two = more.stands in
    elim (parted one.before one.after two.before two.after one.text two.text (sym one.is ∙ two.is)) [
      | inl p ↦ absurd
          (none_later_few begin lines other more one.before p.more asks.calls p.front_is one.read
          asks.few)
      | inr (inl p) ↦ ap (λ n. verdict.Refused n refusal.Requests)
          (two.number_is ∙ ap (λ (before : List (List ℕ)). length before + 1) p.before_is
          ∙ sym one.number_is)
      | inr (inr p) ↦ absurd
          (none_later_few begin lines number asks two.before p.more more.calls p.before_is two.read
          more.few)
    ]
