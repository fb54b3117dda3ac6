-- Orders of the lines of a run as orders of its reservations with their keys, without those for
-- nothing, and with those of each caller in the same order.
use Rattle.ent_replay.proofs.Common.{none, IsNonDecreasingBy, IsNonDecreasingBy-filter}
use Rattle.ent_replay.proofs.Common.{recursion_from_All, All-filter, All-from_recursion, rules, ◌≡◌}
use Rattle.ent_replay.proofs.Common.{ℕ, ◌+◌, ◌<◌, Bool, List, [], ◌∷◌, ◌++◌, filter, Ok, refl, sym}
use Rattle.ent_replay.proofs.Common.{ap, subst, ◌∙◌, arith, AllByRecursion, cases_eq, cases_Bool}
use Rattle.ent_replay.proofs.Common.{filter-append, sum_by-cons, Handle, Allocator, available}
use Rattle.ent_replay.proofs.Common.{IsSound, Call, ReserveReply, Placed, MayPass, IsOrderOf}
use Rattle.ent_replay.proofs.Common.{FitsReserved, AreAnswered, after_lines, KeyOf, AreKeyed}
use Rattle.ent_replay.proofs.Common.{raised, reservations_of, requested_in, common_steps, ◌≢◌, true}
use Rattle.ent_replay.proofs.Common.{false, eq-eqb, ne_eqb, KeepsCallers, is_of, next, length}
use Rattle.ent_replay.proofs.Common.{append-nil, Difference, Lineup, Fits, HasNoOrder, Shows}
use Rattle.ent_replay.proofs.Common.{IsLineup, NamesOne, NoneFits, all_of, lines_of, reached, ◌≤◌}
use Rattle.ent_replay.proofs.Common.{AreSteady, IsSettled, drop-append_seam, drop}
use Rattle.ent_replay.specs.declared.trace.call.Call.TheVariants as line
use Rattle.ent_replay.proofs.Sorted.{lines, lines_append, tie, key, rising, TieAlike, IsRising}
use Rattle.ent_replay.proofs.Sorted.{alike_rest, begins, least, nothing_left, passes, steady_before}
use Rattle.ent_replay.proofs.Sorted.{steady_without}
use Rattle.ent_replay.proofs.Complete.{asks, asks_some, some_or_none, kept, left_out, total}
use Rattle.ent_replay.proofs.Complete.{FitsNothing, Answers-some, after-some, nothing-fits}
use Rattle.ent_replay.proofs.Complete.{Answers-from_some, IsOfOther, raised_own, raised_other}
use Rattle.ent_replay.proofs.Complete.{IsPlacedOrder, all_unordered, all_alike, sorted_is}
use Rattle.ent_replay.proofs.Lists.{no_middle, split, none_kept, kept_forward, kept_rest}
use Rattle.ent_replay.proofs.Lists.{all_weaker, all_parts}

-- ---- with their keys

pub record Unmapped (run : List Placed) (before after : List Call) (c : Call) : Type 0 where
  pub first : List Placed
  pub rest : List Placed
  pub placed : Placed
  pub is : run ≡ first ++ placed ∷ rest
  pub before_is : lines first ≡ before
  pub placed_is : line.Reserve placed.reservation ≡ c
  pub after_is : lines rest ≡ after

pub unmapped : (run : List Placed) (before after : List Call) (c : Call)
    → lines run ≡ before ++ c ∷ after → Unmapped run before after c
unmapped [] before after c e = absurd (no_middle before after c (sym e))
unmapped (p ∷ run) [] after c e =
    let one : line.Reserve p.reservation ≡ c = cc in
    let others : lines run ≡ after = cc in
    record {
      first = [];
      rest = run;
      placed = p;
      is = refl;
      before_is = refl;
      placed_is = one;
      after_is = others;
    }
unmapped (p ∷ run) (b ∷ before) after c e =
    let one : line.Reserve p.reservation ≡ b = cc in
    let others : lines run ≡ before ++ c ∷ after = cc in
    let u = unmapped run before after c others in
    record {
      first = p ∷ u.first;
      rest = u.rest;
      placed = u.placed;
      is = cc u.is;
      before_is = cc (one, u.before_is);
      placed_is = u.placed_is;
      after_is = u.after_is;
    }

pub others_of : (p : Placed) (before : List Placed)
    → AllByRecursion (MayPass (line.Reserve p.reservation)) (lines before)
    → AllByRecursion (IsOfOther p) before
others_of p [] all = tt
others_of p (b ∷ before) all = (all.0, others_of p before all.1)

pub record Lifted (run : List Placed) (order : List Call) : Type 0 where
  pub placed : List Placed
  pub is : order ≡ lines placed
  pub is_order : IsPlacedOrder run placed

pub lifted : (order : List Call) (run : List Placed) → IsOrderOf (lines run) order
    → Lifted run order
lifted [] [] is = record { placed = []; is = refl; is_order = refl }
lifted [] (p ∷ run) is = search (rules, lines)
lifted (c ∷ order) run (before, after, parts, passes, more) =
    let u = unmapped run before after c parts in
    let same : before ++ after ≡ lines (u.first ++ u.rest) = search (rules, lines_append) in
    let next = lifted order (u.first ++ u.rest) (rw (← same) more) in
    let others = others_of u.placed u.first (rw (u.placed_is, u.before_is) passes) in
    record {
      placed = u.placed ∷ next.placed;
      is = λ i. sym u.placed_is i ∷ next.is i;
      is_order = (u.first, u.rest, u.is, others, next.is_order);
    }

-- ---- without those for nothing

all_filtered : (P : Placed → Type 0) (p : Placed → Bool) (xs : List Placed) → AllByRecursion P xs
    → AllByRecursion P (filter p xs)
all_filtered P p xs all =
    recursion_from_All P (filter p xs) (All-filter p P xs (All-from_recursion P xs all))

swap_filters : (p q : Placed → Bool) (xs : List Placed)
    → filter p (filter q xs) ≡ filter q (filter p xs)
swap_filters p q [] = refl
swap_filters p q (x ∷ xs) = search (rules, cases_Bool, swap_filters p q xs)

alike_filtered : (p : Placed → Bool) (sorted run : List Placed) → TieAlike sorted run
    → TieAlike (filter p sorted) (filter p run)
alike_filtered p sorted run alike x = search (rules, swap_filters, tie)

pub order_filtered : (order run : List Placed) → IsPlacedOrder run order
    → IsPlacedOrder (filter asks_some run) (filter asks_some order)
order_filtered [] run none = ap (filter asks_some) none
order_filtered (p ∷ order) run (before, after, parts, others, more) =
    let rest = order_filtered order (before ++ after) more in
    search (
      rules,
      rest,
      parts,
      filter-append,
      some_or_none,
      asks,
      asks_some,
      kept,
      all_filtered,
      left_out,
    )

nothing_key : (given : List Handle) (n own : ℕ) (reply : ReserveReply) → FitsReserved reply (Ok [])
    → KeyOf given n reply own → own ≡ 0
nothing_key given n own told fits key = search rules

not_raised : (f : ℕ → ℕ) (p : Placed) → p.key ≡ f p.reservation.caller → raised f p ≡ f
not_raised f p same =
    let each : (q : ℕ) → raised f p q ≡ f q =
    search (rules, cases_eq, raised_own, raised_other, same) in
    λ i q. each q i

pub keyed_filtered : (given : List Handle) (f : ℕ → ℕ) (run : List Placed) → AreKeyed given f run
    → AllByRecursion FitsNothing run → AreKeyed given f (filter asks_some run)
keyed_filtered given f [] keyed fits = tt
keyed_filtered given f (p ∷ run) keyed fits =
    let rest = keyed_filtered given (raised f p) run keyed.1 fits.1 in
    search (rules, some_or_none, kept, left_out, asks_some, not_raised, nothing_key, rest)

total_filtered : (run : List Placed) → total (filter asks_some run) ≡ total run
total_filtered [] = refl
total_filtered (p ∷ run) =
    search (rules, some_or_none, asks, total, kept, left_out, total_filtered run)

pub total_append : (xs ys : List Placed) → total (xs ++ ys) ≡ total xs + total ys
total_append [] ys = omega arith
total_append (x ∷ xs) ys = omega (arith, total_append xs ys)

total_ordered : (order run : List Placed) → IsPlacedOrder run order → total order ≡ total run
total_ordered [] run none = ap total (sym none)
total_ordered (p ∷ order) run (before, after, parts, others, more) = search
    (rules, total_append, total, total_ordered order (before ++ after) more)

pub total_is : (run : List Placed) → total run ≡ requested_in (reservations_of run)
total_is [] = refl
total_is (p ∷ run) = search (rules, sum_by-cons, total_is run)

some_filtered : (run : List Placed) → AllByRecursion (λ p. 0 < asks p) (filter asks_some run)
some_filtered [] = tt
some_filtered (p ∷ run) = search (rules, some_filtered run)

-- If any order of a run is answered so, the sorted one is, and leaves the same state.
pub sorted_run : (s : Allocator) (sorted run : List Placed) (order : List Call) → IsSound s
    → AreKeyed (available s) (λ _. 0) run → IsNonDecreasingBy key sorted → TieAlike sorted run
    → requested_in (reservations_of sorted) ≡ requested_in (reservations_of run)
    → IsOrderOf (lines run) order → AreAnswered s order
    → AreAnswered s (lines sorted) × (after_lines s order ≡ after_lines s (lines sorted))
sorted_run s sorted run order sound keyed up alike sum is answered =
    let l = lifted order run is in
    let order_yes = rw l.is at answered in
    let fits_run =
    all_unordered FitsNothing run l.placed l.is_order (nothing-fits l.placed s order_yes) in
    let fits_sorted = all_alike FitsNothing sorted run alike fits_run in
    let some = filter asks_some in
    let sums : total (some sorted) ≡ total (some l.placed) = search (
      rules,
      total_filtered,
      total_is sorted,
      total_is run,
      sum,
      total_ordered l.placed run l.is_order,
    ) in
    let ends =
    sorted_is (available s) (some l.placed) (some sorted) (some run) s (λ _. 0) sound refl
    (λ q. (omega arith, omega arith)) (keyed_filtered (available s) (λ _. 0) run keyed fits_run)
    (order_filtered l.placed run l.is_order) (some_filtered l.placed)
    (Answers-some l.placed s order_yes)
    (rising (some sorted) (IsNonDecreasingBy-filter key asks_some sorted up))
    (alike_filtered asks_some sorted run alike) sums in
    search (rules, Answers-from_some sorted s fits_sorted ends.0, l.is, ends.1, after-some)

-- ---- which caller

pub own : (p : Placed) (q : ℕ) → p.reservation.caller ≡ q → is_of q p ≡ true
own p q same = eq-eqb p.reservation.caller q same

pub other : (p : Placed) (q : ℕ) → p.reservation.caller ≢ q → is_of q p ≡ false
other p q apart = ne_eqb p.reservation.caller q apart

pub kept_own : (p : Placed) (q : ℕ) (ps : List Placed) → p.reservation.caller ≡ q
    → filter (is_of q) (p ∷ ps) ≡ p ∷ filter (is_of q) ps
kept_own p q ps same = simp own

pub others_all : (c : Placed) (before : List Placed)
    → AllByRecursion (λ b. is_of c.reservation.caller b ≡ false) before
    → AllByRecursion (MayPass (line.Reserve c.reservation)) (lines before)
others_all c [] all = tt
others_all c (b ∷ before) all = search (rules, own, others_all c before all.1)

-- ---- an order keeps the callers, and what keeps them is an order

nothing : (run : List Placed) → KeepsCallers run [] → run ≡ []
nothing [] keeps = refl
nothing (d ∷ run) keeps = absurd (search (rules, keeps d.reservation.caller, kept_own))

-- one comes before those of others
forward : (p : Placed) (left rest : List Placed) → filter (is_of p.reservation.caller) left ≡ []
    → (q : ℕ) → filter (is_of q) (p ∷ (left ++ rest)) ≡ filter (is_of q) (left ++ p ∷ rest)
forward p left rest none q = grind (arith, common_steps, kept_forward)

pub keeps-IsOrderOf : (order run : List Placed) → KeepsCallers run order
    → IsOrderOf (lines run) (lines order)
keeps-IsOrderOf [] run keeps = ap lines (nothing run keeps)
keeps-IsOrderOf (p ∷ order) run keeps =
    let q = p.reservation.caller in
    let s =
    split (is_of q) p (filter (is_of q) order) run (sym (keeps q) ∙ kept_own p q order refl) in
    let rest : KeepsCallers (s.before ++ s.after) order = λ k. search
    (rules, kept_rest (is_of k) order (s.before ++ s.after) p, keeps k, s.is, forward, none_kept) in
    search
    (rules, lines, lines_append, others_all, keeps-IsOrderOf order (s.before ++ s.after) rest)

pub order-keeps : (order run : List Placed) → IsPlacedOrder run order → KeepsCallers run order
order-keeps [] run is q = cc
order-keeps (p ∷ order) run (before, after, parts, others, more) q = search
    (rules, none_kept, all_weaker, other, forward, order-keeps order (before ++ after) more q)

pub keeps-forward : (run placed left rest : List Placed) (p : Placed)
    → filter (is_of p.reservation.caller) left ≡ []
    → KeepsCallers run (placed ++ (left ++ p ∷ rest))
    → KeepsCallers run (placed ++ (p ∷ (left ++ rest)))
keeps-forward run placed left rest p none keeps q = search (rules, filter-append, forward)

-- ---- the sorted run is lined up: all of it is placed, or no order of the run is answered so; if
-- no caller's first reservation that is left fits, no line that may come next does

-- lists of the same lines have as many of each caller
alike : (q : ℕ) (xs ys : List Placed) → lines_of xs ≡ lines_of ys
    → length (filter (is_of q) xs) ≡ length (filter (is_of q) ys)
alike q [] [] is = refl
alike q (x ∷ xs) (y ∷ ys) is = search (rules, alike q xs ys, cases_Bool)
alike q _ _ is = search rules

-- of equal lists what follows as many is equal
cancelled : (a b c d : List Placed) → length a ≡ length b → a ++ c ≡ b ++ d → c ≡ d
cancelled a b c d long is =
    cc (drop-append_seam a c, drop-append_seam b d, ap (λ n. drop n (a ++ c)) long)

-- a stable sort by keys that don't fall along a caller keeps each caller's order
sorted-placed : (sorted run : List Placed) → IsRising sorted → TieAlike sorted run → AreSteady run
    → IsPlacedOrder run sorted
sorted-placed [] run up alike steady = nothing_left run alike
sorted-placed (h ∷ sorted) run up alike steady =
    let s = split (tie h) h (filter (tie h) sorted) run (begins h sorted run alike) in
    let steady_here = rw s.is at steady in
    let low_here = rw s.is at (least h sorted run up.0 alike) in
    let low = (all_parts (λ (p : Placed). h.key ≤ p.key) s.before (h ∷ s.after) low_here).0 in
    let others =
    others_of h s.before
    (passes h s.before s.none low (steady_before s.before s.after h steady_here)) in
    let alike_here = alike_rest h sorted s.before s.after s.none (rw s.is at alike) in
    let rest = steady_without s.before s.after h steady_here in (
      s.before,
      s.after,
      s.is,
      others,
      sorted-placed sorted (s.before ++ s.after) up.1 alike_here rest,
    )

-- a run is sorted and lined up
pub record IsLinedUp (s : Allocator) (run sorted : List Placed) (l : Lineup) : Type 0 where
  pub keyed : AreKeyed (available s) (λ _. 0) run
  pub steady : AreSteady run
  pub up : IsNonDecreasingBy key sorted
  pub alike : TieAlike sorted run
  pub sum : requested_in (reservations_of sorted) ≡ requested_in (reservations_of run)
  pub lined : IsLineup s l
  pub keeps : KeepsCallers sorted (all_of l)
  pub whole : AreAnswered s (lines_of sorted) → l.rest.items ≡ []

module _ {s : Allocator} {run sorted : List Placed} {l : Lineup}
    (h : IsLinedUp s run sorted l) where
  kept_callers : KeepsCallers run (all_of l)
  kept_callers q =
      h.keeps q ∙ order-keeps sorted run
      (sorted-placed sorted run (rising sorted h.up) h.alike h.steady) q

  stuck : NoneFits (reached s l) l.rest.items → (next : Call) (left : List Call)
      → IsOrderOf (lines_of run) (lines_of l.placed.items ++ next ∷ left) → Fits (reached s l) next
      → ⊥
  stuck none next left is fits =
      let up = lifted (lines_of l.placed.items ++ next ∷ left) run is in
      let u = unmapped up.placed (lines_of l.placed.items) left next (sym up.is) in
      let q = u.placed.reservation.caller in
      let order = order-keeps up.placed run up.is_order in
      let whole : filter (is_of q) u.first ++ u.placed ∷ filter (is_of q) u.rest
      ≡ filter (is_of q) l.placed.items
      ++ filter (is_of q) l.rest.items = search
      (rules, kept_own u.placed q u.rest refl, filter-append, u.is, order q, kept_callers q) in
      let here = cancelled _ _ _ _ (alike q u.first l.placed.items u.before_is) whole in
      let at = split (is_of q) u.placed (filter (is_of q) u.rest) l.rest.items (sym here) in
      none at.before u.placed at.after at.is (none_kept (is_of q) at.before at.none)
      (rw (← u.placed_is) at fits)

  -- if any order of the run is answered so, the sorted one is, and leaves the same state
  best : (other : List Call) → IsOrderOf (lines_of run) other → AreAnswered s other
      → AreAnswered s (lines_of sorted) × (after_lines s other ≡ after_lines s (lines_of sorted))
  best other is all = sorted_run s sorted run other h.lined.sound h.keyed h.up h.alike h.sum is all

  pub all-settled : l.rest.items ≡ [] → {placed : List Placed} → placed ≡ l.placed.items
      → {at : Allocator}
      → at ≡ after_lines s (lines_of placed)
      → IsSettled (record { allocator = s; run = reservations_of run }) at
  all-settled none {placed} is {at} at_is =
      search (rules, append-nil, keeps-IsOrderOf, kept_callers, best)

  pub some-none : l.rest.items ≢ []
      → HasNoOrder (record { allocator = s; run = reservations_of run })
  some-none some other is all = some (h.whole (best other is all).0)

  pub some-Shows : l.rest.items ≢ [] → NoneFits (reached s l) l.rest.items → (d : Difference)
      → NamesOne s l d → (n : ℕ)
      → Shows (record { allocator = s; run = reservations_of run }) n [] d
  some-Shows some none d names n =
      let forward : KeepsCallers run
      (l.placed.items ++ names.named ∷ (names.before ++ names.after)) = keeps-forward run
      l.placed.items names.before names.after names.named names.first
      (rw (← names.is) kept_callers) in
      record {
        placed = lines_of l.placed.items;
        next = line.Reserve names.named.reservation;
        left = lines_of (names.before ++ names.after);
        is_order = search (rules, append-nil, lines_append, keeps-IsOrderOf _ run forward);
        answered = h.lined.answered;
        differs = names.differs n;
        stuck = λ next left is. stuck none next left (rw (← append-nil (lines_of run)) is);
        blamed = some-none some;
      }
