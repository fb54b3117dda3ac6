-- What a checker takes, one call after the other, and what its answers say of all its calls
-- together.
use Rattle.ent_replay.proofs.Common.{rules, Result, IfOk, IfErr, OnOk, Difference, CheckError}
use Rattle.ent_replay.proofs.Common.{OnDiffers, ◌≡◌, ◌+◌, List, [], ◌∷◌, ◌++◌, refl, reverse}
use Rattle.ent_replay.proofs.Common.{append-nil, reverse-append, Call, Checker, Reservation}
use Rattle.ent_replay.proofs.Common.{reserve_lines, Takes, TakesAll, Ok, Err, ap, inl, inr, ◌⊎◌}
use Rattle.ent_replay.proofs.Common.{IsOk, Limits, opening, AgreesWith, AllFollow, Checked, opened}
use Rattle.ent_replay.proofs.Common.{Agrees, Compares, Finishes, numbered, numbered_after, one_more}
use Rattle.ent_replay.specs.declared.trace.call.Call.TheVariants as line
use Rattle.ent_replay.specs.declared.trace.check_error.CheckError.TheVariants as error

pub on_differs : (s : CheckError) (P Q : Difference → Type 0) → ((d : Difference) → P d → Q d)
    → OnDiffers s P → OnDiffers s Q
on_differs it P Q each h = search rules

module _ {X E : Type 0} where
  pub on_both : (r : Result X E) (F : Type 0) (P Q : X → Type 0) → (F → (x : X) → P x → Q x)
      → OnOk r F → IfOk r P → IfOk r Q
  on_both it F P Q each f h = search rules

  pub on_err : (r : Result X E) (P Q : E → Type 0) → ((e : E) → P e → Q e) → IfErr r P → IfErr r Q
  on_err it P Q each h = search rules

pub TakesAll-append : (first second : List Call) (old middle new : Checker)
    → TakesAll old first middle → TakesAll middle second new → TakesAll old (first ++ second) new
TakesAll-append [] second old middle new same more = rw (← same) more
TakesAll-append (l ∷ first) second old middle new (next, takes, others) more =
    (next, takes, TakesAll-append first second next middle new others more)

-- All calls were taken from the old state on, if those that are left are taken from this one on.
abbrev pub Leads : Checker → List Call → Checker → List Call → Type 0
Leads old all now left = (final : Checker) → TakesAll now left final → TakesAll old all final

pub Leads-all : (old now : Checker) (all : List Call) → Leads old all now [] → TakesAll old all now
Leads-all old now all leads = leads now refl

pub Leads-popped : (old now next : Checker) (all : List Call) (before after : List Reservation)
    (r : Reservation) → before ≡ after ++ r ∷ []
    → Leads old all now (reserve_lines (reverse before)) → Takes now (line.Reserve r) next
    → Leads old all next (reserve_lines (reverse after))
Leads-popped old now next all before after r is leads takes final more =
    search (rules, reverse-append)

-- ---- logs

ok_or_err : {X E : Type 0} (r : Result X E) → ((x : X) × (r ≡ Ok x)) ⊎ ((e : E) × (r ≡ Err e))
ok_or_err (Ok x) = inl (x, refl)
ok_or_err (Err e) = inr (e, refl)

-- one that has stopped stays as it is
stopped-all : (lines : List Call) (old new : Checker) (e : CheckError) → old.comparer ≡ Err e
    → TakesAll old lines new → new ≡ old
stopped-all [] old new e is same = same
stopped-all (l ∷ lines) old new e is (next, takes, more) =
    let same = rw is at takes.stopped in search (rules, stopped-all lines next new e, same)

-- one call that was taken
compared : (old next : Checker) (l : Call) (c : Checked) (r : Result Checked CheckError)
    → old.comparer ≡ Ok c → next.comparer ≡ r → Takes old l next
    → Compares c next.calls (numbered next.calls l) r
compared old next l c r is next_is takes = rw (is, next_is) at takes.compared

counted : (old next : Checker) (l : Call) (c : Checked) → old.comparer ≡ Ok c → Takes old l next
    → next.calls ≡ one_more old.calls
counted old next l c is takes = rw is at takes.counted

pub all_follow : (lines : List Call) (old new : Checker) (c d : Checked) → old.comparer ≡ Ok c
    → new.comparer ≡ Ok d → TakesAll old lines new → AllFollow c (numbered_after old.calls lines) d
all_follow [] old new c d is new_is same = search rules
all_follow (l ∷ lines) old new c d is new_is (next, takes, more) = elim (ok_or_err next.comparer) [
  | inl ok ↦ search (rules, counted, compared, all_follow lines next new ok.0 d ok.1 new_is more)
  | inr bad ↦ let same = stopped-all lines next new bad.0 bad.1 more in absurd cc
]

-- it has stopped for a difference: no trace that begins so agrees
pub taken-differs : (lines : List Call) (old new : Checker) (c : Checked) (d : Difference)
    → old.comparer ≡ Ok c → new.comparer ≡ Err (error.Differs d) → TakesAll old lines new
    → (rest : List Call) → AgreesWith c (numbered_after old.calls lines ++ rest) → ⊥
taken-differs [] old new c d is new_is same rest agrees = search rules
taken-differs (l ∷ lines) old new c d is new_is (next, takes, more) rest agrees =
    let here = rw (← counted old next l c is takes) at agrees in
    elim (ok_or_err next.comparer) [
      | inl ok ↦ taken-differs lines next new ok.0 d ok.1 new_is more rest
          ((compared old next l c (Ok ok.0) is ok.1 takes).follows.complete _ here)
      | inr bad ↦
          let same = stopped-all lines next new bad.0 bad.1 more in
          search (rules, same, compared old next l c (Err bad.0) is bad.1 takes, here)
    ]

-- ---- from the first call on

-- No call fails, and neither does the end: the trace agrees.
pub finished-agrees : {A : Type 0} (limits : Limits) (start : Checker) (lines : List Call)
    (answer : Result A CheckError) → start.comparer ≡ Ok (opened limits)
    → Finishes start lines answer → IsOk answer
    → Agrees (opening limits) (numbered_after start.calls lines)
finished-agrees limits start lines answer opens (taken, all, closes, stopped) ok =
    elim (ok_or_err taken.comparer) [
      | inl c ↦
          let closed = rw c.1 at closes in
          rw append-nil at
          ((all_follow lines start taken _ c.0 opens c.1 all).sound []
          (search (rules, closed.agrees)))
      | inr e ↦ let same : answer ≡ Err e.0 = rw e.1 at stopped in let failed = rw same at ok in
          absurd cc
    ]

-- It ends with a difference: the trace doesn't agree.
pub finished-differs : {A : Type 0} (limits : Limits) (start : Checker) (lines : List Call)
    (answer : Result A CheckError) (d : Difference) → start.comparer ≡ Ok (opened limits)
    → Finishes start lines answer → answer ≡ Err (error.Differs d)
    → Agrees (opening limits) (numbered_after start.calls lines) → ⊥
finished-differs limits start lines answer d opens (taken, all, closes, stopped) named agrees =
    let whole = rw (← append-nil (numbered_after start.calls lines)) at agrees in
    elim (ok_or_err taken.comparer) [
      | inl c ↦ (rw named at (rw c.1 at closes).none)
          ((all_follow _ _ _ _ c.0 opens c.1 all).complete [] whole)
      | inr e ↦
          let kept : answer ≡ Err e.0 = rw e.1 at stopped in
          taken-differs lines start taken _ d opens (cc) all [] whole
    ]
