-- A sorted run is in an order that its reservations may have come in: a stable sort by keys that
-- don't fall along a caller keeps each caller's order, and along a caller the keys of a run don't
-- fall.
use Rattle.ent_replay.proofs.Common.{rules, ◌≡◌, ℕ, suc, ◌≤◌, Bool, true, false, not, ◌&&◌, cond}
use Rattle.ent_replay.proofs.Common.{nat_lt, List, [], ◌∷◌, ◌++◌, filter, All, refl, arith}
use Rattle.ent_replay.proofs.Common.{true≢false, common_steps, AllByRecursion, ties}
use Rattle.ent_replay.proofs.Common.{IsNonDecreasingBy, nat_cmp, is_lt, le-ltb, All-head, All-tail}
use Rattle.ent_replay.proofs.Common.{All-filter, All-from_recursion, recursion_from_All, Call}
use Rattle.ent_replay.proofs.Common.{Placed, MayPass, reservations_of, reserve_lines, ComesAfter}
use Rattle.ent_replay.proofs.Common.{AreSteady, sum_by_push, ◌+◌, ◌^◌, unwrap_or, cases_eq}
use Rattle.ent_replay.proofs.Common.{requested_in, IsLatest, IsChecking, IsKeyed, AreKeyed}
use Rattle.ent_replay.proofs.Common.{keys_after, raised, Handle, Allocator, available, eq-eqb}
use Rattle.ent_replay.proofs.Common.{ne_eqb}
use Rattle.std.specs.FinMap as finite
use Rattle.ent_replay.specs.declared.trace.call.Call.TheVariants as line
use Rattle.ent_replay.proofs.Lists.{all_at, all_without, all_weaker, none_kept, kept_forward}
use Rattle.ent_replay.proofs.Lists.{kept_rest, all_push}
use Rattle.ent_replay.proofs.Tables.{get-inserted, get-insert_other}

abbrev pub lines : List Placed → List Call
lines run = reserve_lines (reservations_of run)

abbrev pub key : Placed → ℕ
key p = p.key

-- ---- keys that tie

abbrev pub tie : Placed → Placed → Bool
tie = ties (λ x y. is_lt (nat_cmp (key x) (key y)))

tie_is : (p q : Placed) → tie p q ≡ (not (nat_lt p.key q.key) && not (nat_lt q.key p.key))
tie_is p q = search rules

pub tie_from : (p q : Placed) → p.key ≡ q.key → tie p q ≡ true
tie_from p q e = search (rules, le-ltb)

pub tie_key : (p q : Placed) → tie p q ≡ true → p.key ≡ q.key
tie_key p q e = grind (arith, common_steps, tie_is p q)

-- ---- a sorted list

abbrev pub IsRising : List Placed → Type 0
IsRising [] = Unit {0}
IsRising (h ∷ run) = AllByRecursion (λ (p : Placed). h.key ≤ p.key) run × IsRising run

pub rising : (run : List Placed) → IsNonDecreasingBy key run → IsRising run
rising [] up = tt
rising (h ∷ run) up = (
  recursion_from_All (λ (p : Placed). h.key ≤ p.key) run
      (λ k d lt. up 0 (suc k) d (omega arith) (omega arith)),
  rising run (λ i j d le lt. up (suc i) (suc j) d (omega arith) (omega arith)),
)

-- what holds of all that tie with any one holds of all
module _ (Q : Placed → Type 0) where
  rest_of : (d x : Placed) (run : List Placed) (b : Bool)
      → All Q (cond b (d ∷ filter (tie x) run) (filter (tie x) run)) → All Q (filter (tie x) run)
  rest_of d x run true all = All-tail Q d (filter (tie x) run) all
  rest_of d x run false all = all

  pub whole : (run : List Placed) → ((x : Placed) → All Q (filter (tie x) run))
      → AllByRecursion Q run
  whole [] each = tt
  whole (d ∷ run) each = (
    All-head Q d _ ((rw (tie_from d d refl) at (each d))),
    whole run (λ x. rest_of d x run _ (each x)),
  )

-- the second list has what ties with any one in the same order
abbrev pub TieAlike : List Placed → List Placed → Type 0
TieAlike sorted run = (x : Placed) → filter (tie x) sorted ≡ filter (tie x) run

pub least : (h : Placed) (sorted run : List Placed)
    → AllByRecursion (λ (p : Placed). h.key ≤ p.key) sorted → TieAlike (h ∷ sorted) run
    → AllByRecursion (λ (p : Placed). h.key ≤ p.key) run
least h sorted run up alike =
    let Q : Placed → Type 0 = λ (p : Placed). h.key ≤ p.key in
    whole Q run (λ x. rw (← alike x) (All-filter (tie x) Q (h ∷ sorted)
    (All-from_recursion Q (h ∷ sorted) (omega arith, up))))

-- ---- steady callers

pub steady_before : (before after : List Placed) (h : Placed) → AreSteady (before ++ h ∷ after)
    → AllByRecursion (λ (b : Placed). ComesAfter b h) before
steady_before [] after h steady = tt
steady_before (b ∷ before) after h steady =
    (all_at _ before after h steady.0, steady_before before after h steady.1)

pub steady_without : (before after : List Placed) (h : Placed) → AreSteady (before ++ h ∷ after)
    → AreSteady (before ++ after)
steady_without [] after h steady = steady.1
steady_without (b ∷ before) after h steady =
    (all_without _ _ _ h steady.0, steady_without before after h steady.1)

pub passes : (h : Placed) (before : List Placed) → AllByRecursion (λ b. tie h b ≡ false) before
    → AllByRecursion (λ (b : Placed). h.key ≤ b.key) before
    → AllByRecursion (λ (b : Placed). ComesAfter b h) before
    → AllByRecursion (MayPass (line.Reserve h.reservation)) (lines before)
passes h [] none least steady = tt
passes h (b ∷ before) none least steady =
    search (rules, true≢false, tie_from, passes h before none.1 least.1 steady.1)

-- ---- one is taken out

pub lines_append : (xs ys : List Placed) → lines (xs ++ ys) ≡ lines xs ++ lines ys
lines_append xs ys = grind (arith, common_steps)

pub alike_rest : (h : Placed) (sorted before after : List Placed)
    → AllByRecursion (λ b. tie h b ≡ false) before → TieAlike (h ∷ sorted) (before ++ h ∷ after)
    → TieAlike sorted (before ++ after)
alike_rest h sorted before after none alike x = grind
    (arith, common_steps, kept_rest, kept_forward, tie_key, none_kept, all_weaker, tie_from)

pub begins : (h : Placed) (sorted run : List Placed) → TieAlike (h ∷ sorted) run
    → filter (tie h) run ≡ h ∷ filter (tie h) sorted
begins h sorted run alike = search (rules, tie_from)

pub nothing_left : (run : List Placed) → TieAlike [] run → run ≡ []
nothing_left [] alike = refl
nothing_left (d ∷ run) alike = search (rules, tie_from d d refl)

-- one more is requested
pub requested-push : (run : List Placed) (p : Placed)
    → requested_in (reservations_of (run ++ p ∷ []))
    ≡ requested_in (reservations_of run) + p.reservation.requested
requested-push run p = grind (arith, common_steps, sum_by_push)

keyed_push : (given : List Handle) (run : List Placed) (f : ℕ → ℕ) (p : Placed)
    → AreKeyed given f run → IsKeyed given (keys_after f run p.reservation.caller) p
    → AreKeyed given f (run ++ p ∷ [])
keyed_push given [] f p keyed own = (own, tt)
keyed_push given (q ∷ run) f p keyed own =
    (keyed.0, keyed_push given run (raised f q) p keyed.1 own)

after_push : (run : List Placed) (f : ℕ → ℕ) (p : Placed)
    → keys_after f (run ++ p ∷ []) ≡ raised (keys_after f run) p
after_push [] f p = refl
after_push (q ∷ run) f p = after_push run (raised f q) p

module _ (latest : finite.FinMap nat_cmp ℕ) (p : Placed)
    (greatest : unwrap_or (finite.get latest p.reservation.caller)
    0 ≤ p.key) where
  abbrev now : finite.FinMap nat_cmp ℕ
  now = finite.insert latest p.reservation.caller p.key

  steady_push : (run : List Placed) → AreSteady run → AllByRecursion (IsLatest latest) run
      → AreSteady (run ++ p ∷ [])
  steady_push [] steady all = (tt, tt)
  steady_push (q ∷ run) steady all = search (rules, all_push, steady_push run steady.1 all.1)

  latest_kept : (q : Placed) → IsLatest latest q → IsLatest now q
  latest_kept q is = search (rules, cases_eq, get-inserted, get-insert_other)

  -- what is kept for each caller is its last key
  last_push : (f : ℕ → ℕ) → ((q : ℕ) → unwrap_or (finite.get latest q) 0 ≡ f q) → (q : ℕ)
      → unwrap_or (finite.get now q) 0 ≡ raised f p q
  last_push f last q = search (rules, cases_eq, get-inserted, eq-eqb, get-insert_other, ne_eqb)

  pub IsChecking-push : (s : Allocator) (wanted : ℕ) (run : List Placed)
      → IsChecking s wanted run latest → wanted + p.reservation.requested ≤ 2 ^ 50
      → IsKeyed (available s) (unwrap_or (finite.get latest p.reservation.caller) 0) p
      → IsChecking s (wanted + p.reservation.requested) (run ++ p ∷ []) now
  IsChecking-push s wanted run is few keyed =
      let kept = all_weaker (IsLatest latest) (IsLatest now) latest_kept in
      search (
        rules,
        requested-push,
        steady_push,
        all_push,
        kept,
        keyed_push,
        last_push,
        after_push,
        get-inserted,
      )

-- an empty map keeps nothing
pub empty_keeps : (latest : finite.FinMap nat_cmp ℕ) → latest ≡ finite.empty → (q : ℕ)
    → unwrap_or (finite.get latest q) 0 ≡ 0
empty_keeps latest is q = simp (is, finite.get-empty)

pub no_run : (run : List Placed) → reservations_of run ≡ [] → run ≡ []
no_run [] is = refl
no_run (p ∷ run) is = search rules

-- a call that nothing overlaps leaves a checker without a run so
pub IsChecking-called : (s t : Allocator) (wanted next : ℕ) (run : List Placed)
    (latest : finite.FinMap nat_cmp ℕ) → reservations_of run ≡ [] → IsChecking s wanted run latest
    → next ≡ t.asked → next ≤ 2 ^ 50 → IsChecking t next run latest
IsChecking-called s t wanted next run latest none before is few = search (rules, no_run)
