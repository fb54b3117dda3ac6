-- What is placed of a run, and what is left: one pass over what is left, what stops it, and which
-- one a difference names.
use Rattle.ent_replay.proofs.Common.{add-one, rules, ◌≡◌, ℕ, suc, ◌+◌, ◌-◌, ◌<◌, ◌≤◌, ℤ, pos, ◌+ℤ◌}
use Rattle.ent_replay.proofs.Common.{◌-ℤ◌, ◌≤ℤ◌, List, [], ◌∷◌, ◌++◌, length, take, drop, slice_get}
use Rattle.ent_replay.proofs.Common.{Some, arith, ints, drop-drop, append_assoc, length-append}
use Rattle.ent_replay.proofs.Common.{Handle, Allocator, top, cursor, asked_at, pool_at, IsSound}
use Rattle.ent_replay.proofs.Common.{◌^◌, get_or, common_steps, drop-cons, sum_by-cons, after_take}
use Rattle.ent_replay.proofs.Common.{asked-after_take, Placed, after_lines, reservations_of}
use Rattle.ent_replay.proofs.Common.{requested_in, ◌≢◌, filter, None, refl, cases_eq, take_more}
use Rattle.ent_replay.proofs.Common.{take-append-drop, length-take, filter-append, nat_cmp}
use Rattle.ent_replay.proofs.Common.{IsFirstAt, is_of, sym, inl, inr, ◌⊎◌, available, reply_from}
use Rattle.ent_replay.proofs.Common.{reply_to, cursor-after_take, made-after_take, reply-cursor}
use Rattle.ent_replay.proofs.Common.{top-after_take, after_take-sound, available-after_take, Lineup}
use Rattle.ent_replay.proofs.Common.{AreAnswered, FitsReserved, FitsAt, IsLineup, KeepsCallers}
use Rattle.ent_replay.proofs.Common.{NoneFits, all_of, lines_of, reached, append-nil}
use Rattle.std.specs.FinMap as finite
use Rattle.ent_replay.proofs.Sorted.{lines, lines_append}
use Rattle.ent_replay.proofs.Tables.{get-inserted, get-insert_other, nothing_in}
use Rattle.ent_replay.proofs.Settled.{other, total_append, total_is, keeps-forward, own}
use Rattle.ent_replay.proofs.Complete.{asks, total}
use Rattle.ent_replay.proofs.Orders.{AreAnswered-append, answered_back}
use Rattle.ent_replay.proofs.Lists.{parted, no_middle}

-- one position below, one more was asked for
asked_below : (high : ℕ) (p : ℤ) → p ≤ℤ pos high → asked_at high (p -ℤ pos 1) ≡ asked_at high p + 1
asked_below high p below = search (rules, ints)

pool_below : (s : Allocator) (p : ℤ) → p ≤ℤ pos (top s)
    → pool_at s (p -ℤ pos 1) ≡ drop 1 (pool_at s p)
pool_below s p below = search (rules, asked_below, drop-drop)

-- what is listed of the front, and what is left of it
pub record Listed (s : Allocator) (start next : ℤ) (front : List Handle) : Type 0 where
  pub is : front ++ take (8 - length front) (pool_at s next) ≡ take 8 (pool_at s start)
  pub few : length front ≤ 8
  pub above : start ≡ next +ℤ pos (length front)

module _ (s : Allocator) (start next : ℤ) (front : List Handle)
    (listed : Listed s start next front) where
  pub Listed-next : next ≤ℤ pos (top s) → length front < 8 → (h : Handle)
      → slice_get (pool_at s next) 0 ≡ Some h → Listed s start (next -ℤ pos 1) (front ++ h ∷ [])
  Listed-next below more h is =
      let left : 8 - length front ≡ suc (7 - length front) = omega arith in
      search (rules, length-append, append_assoc, pool_below, ints)

-- those before an index were made
pub record Made (old s : Allocator) (run : List Placed) (i : ℕ) : Type 0 where
  pub after : after_lines s (lines (drop i run)) ≡ after_lines old (lines run)
  pub asked : s.asked + requested_in (reservations_of (drop i run)) ≤ 2 ^ 50

module _ (old s : Allocator) (run : List Placed) (i : ℕ) where
  pub Made-few : Made old s run i → (p : Placed) → i < length run → p ≡ get_or run i p
      → s.asked + p.reservation.requested ≤ 2 ^ 50
  Made-few made p within is = grind (arith, common_steps, drop-cons, sum_by-cons)

  pub Made-next : Made old s run i → (p : Placed) → i < length run → p ≡ get_or run i p
      → (t : Allocator) → t ≡ after_take s p.reservation.requested → Made old t run (i + 1)
  Made-next made p within is t after =
      grind (arith, common_steps, lines, drop-cons, sum_by-cons, asked-after_take)

-- a caller that was not seen has none among the first ones
abbrev pub AreSeen : finite.FinMap nat_cmp ℕ → List Placed → ℕ → Type 0
AreSeen seen rest index = (q : ℕ) → finite.get seen q ≡ None
    → filter (is_of q) (take index rest) ≡ []

module _ (seen : finite.FinMap nat_cmp ℕ) (rest : List Placed) (index : ℕ) (p : Placed)
    (within : index < length rest)
    (at : p ≡ get_or rest index p) (h : AreSeen seen rest index) where
  more : take (index + 1) rest ≡ take index rest ++ p ∷ []
  more = cc (take_more rest index p within, at)

  pub others : (q : ℕ) → q ≢ p.reservation.caller → finite.get seen q ≡ None
      → filter (is_of q) (take (index + 1) rest) ≡ []
  others q apart is = search (rules, more, filter-append, other, append-nil)

  pub IsFirstAt-unseen : finite.get seen p.reservation.caller ≡ None → IsFirstAt rest index
  IsFirstAt-unseen none = record {
    before = take index rest;
    named = p;
    after = drop (index + 1) rest;
    is = cc (take-append-drop index rest, drop-cons rest index p within, add-one index, at);
    index_is = omega (arith, length-take index rest);
    first = h p.reservation.caller none;
  }

pub IsFirstAt-head : (rest : List Placed) → rest ≢ [] → IsFirstAt rest 0
IsFirstAt-head [] some = absurd (some refl)
IsFirstAt-head (p ∷ rest) some =
    record { before = []; named = p; after = rest; is = refl; index_is = refl; first = refl }

-- what the search for it keeps
pub record Trying (seen : finite.FinMap nat_cmp ℕ) (rest : List Placed) (index tries : ℕ)
    : Type 0 where
  pub seen_are : AreSeen seen rest index
  pub few : tries < 64

abbrev after : Allocator → List Placed → Allocator
after s run = after_lines s (lines_of run)

-- ---- the state after reservations

pub record IsAfter (s t : Allocator) (run : List Placed) : Type 0 where
  pub sound : IsSound t
  pub available_is : available t ≡ available s
  pub made_is : t.made ≡ s.made
  pub top_is : top t ≡ top s
  pub asked_is : t.asked ≡ s.asked + total run

pub is_after : (run : List Placed) (s : Allocator) → IsSound s → IsAfter s (after s run) run
is_after [] s sound = search rules
is_after (p ∷ run) s sound =
    let more = is_after run (after_take s (asks p)) (after_take-sound s (asks p) sound) in
    search (
      rules,
      arith,
      available-after_take,
      made-after_take,
      top-after_take,
      asked-after_take,
      more,
    )

after-append : (xs ys : List Placed) (s : Allocator) → after s (xs ++ ys) ≡ after (after s xs) ys
after-append [] ys s = refl
after-append (x ∷ xs) ys s = after-append xs ys (after_take s (asks x))

-- the position stands for the state
module _ (s : Allocator) (run : List Placed) (at : ℤ) (sound : IsSound s)
    (at_is : at ≡ cursor (after s run)) where
  pub here : IsAfter s (after s run) run
  here = is_after run s sound

  pub pools : pool_at s at ≡ pool_at (after s run) at
  pools = λ i. drop (asked_at (sym here.top_is i) at) (sym here.available_is i)

  pub reply-here : (n : ℕ) → reply_from s.made (pool_at s at) n ≡ reply_to (after s run) n
  reply-here n = cc (pools, here.made_is, at_is, reply-cursor (after s run) n here.sound)

  pub at-passed : at ≤ℤ pos (top s)
  at-passed = let e = here.top_is in omega (arith, ints)

  pub at-least : s.asked + total run ≤ 2 ^ 50 → pos (top s) ≤ℤ (at +ℤ pos (2 ^ 50))
  at-least few = let e = here.top_is in let a = here.asked_is in omega (arith, ints)

  -- after one more
  pub at-next : (p : Placed) → (at -ℤ pos (asks p)) ≡ cursor (after s (run ++ p ∷ []))
  at-next p =
      cc (at_is, cursor-after_take (after s run) (asks p) here.sound, after-append run (p ∷ []) s)

-- ---- one pass

-- what was gone over, and what is still to be
pub record Passing (s : Allocator) (start : Lineup) (placed left rest : List Placed) (at : ℤ)
    (blocked : finite.FinMap nat_cmp ℕ) : Type 0 where
  pub keeps : KeepsCallers (all_of start) (placed ++ (left ++ rest))
  pub answered : AreAnswered s (lines_of placed)
  pub at_is : at ≡ cursor (after s placed)
  pub sum : total (placed ++ (left ++ rest)) ≡ total (all_of start)
  pub count : length placed + (length left + length rest) ≡ length (all_of start)
  pub grown : length start.placed.items ≤ length placed
  -- a caller is blocked if one of its reservations is left
  pub free : (q : ℕ) → finite.get blocked q ≡ None → filter (is_of q) left ≡ []
  pub held : (q : ℕ) (key : ℕ) → finite.get blocked q ≡ Some key → filter (is_of q) left ≡ [] → ⊥
  -- if nothing is placed, none that is left fits
  pub still : length placed ≡ length start.placed.items
      → (placed ≡ start.placed.items) × NoneFits (reached s start) left
  -- if all fit in the order in which they are, none is left
  pub whole : AreAnswered s (lines_of (all_of start))
      → (left ≡ []) × AreAnswered s (lines_of (placed ++ rest))

-- ---- what a loop has

module _ {s : Allocator} {start : Lineup} {placed left all : List Placed} {at : ℤ}
    {blocked : finite.FinMap nat_cmp ℕ}
    (begun : IsLineup s start) (h : Passing s start placed left all at blocked) where
  few : s.asked + total (placed ++ (left ++ all)) ≤ 2 ^ 50
  few = omega (arith, total_is)

  pub Passing-passed : at ≤ℤ pos (top s)
  Passing-passed = at-passed s placed at begun.sound h.at_is

  pub Passing-least : pos (top s) ≤ℤ (at +ℤ pos (2 ^ 50))
  Passing-least = search (rules, few, total_append, at-least)

  module _ {rest : List Placed} {p : Placed} (parts : all ≡ p ∷ rest) where
    pub Passing-lower : pos (top s) ≤ℤ ((at -ℤ pos (asks p)) +ℤ pos (2 ^ 50))
    Passing-lower =
        at-least s (placed ++ p ∷ []) _ begun.sound (at-next s placed at begun.sound h.at_is p)
        (search (rules, few, total_append))

    fits_here : FitsReserved p.reservation.reply (reply_from s.made (pool_at s at) (asks p))
        ≡ FitsAt (after s placed) p
    fits_here = cc (reply-here s placed at begun.sound h.at_is (asks p))

    -- it is its caller's next one, and fits
    pub placed_next : {items : List Placed} {below : ℤ} → items ≡ placed ++ p ∷ []
        → below ≡ at -ℤ pos (asks p) → finite.get blocked p.reservation.caller ≡ None
        → FitsReserved p.reservation.reply (reply_from s.made (pool_at s at) (asks p))
        → Passing s start items left rest below blocked
    placed_next {items} {below} is lower none fits =
        let here : Passing s start placed left (p ∷ rest) at blocked = rw parts at h in
        let fits : FitsAt (after s placed) p = rw (← fits_here) fits in
        let sound = begun.sound in
        rw (is, lower) (search (
          rules,
          append_assoc,
          length-append,
          keeps-forward,
          lines_append,
          AreAnswered-append,
          at-next,
          total_append,
        ))

    -- it isn't, or doesn't fit
    pub left_next : {items : List Placed} {now : finite.FinMap nat_cmp ℕ} (key : ℕ)
        → items ≡ left ++ p ∷ [] → now ≡ finite.insert blocked p.reservation.caller key
        → ((v : ℕ) × (finite.get blocked p.reservation.caller ≡ Some v))
        ⊎ (FitsReserved p.reservation.reply (reply_from s.made (pool_at s at) (asks p)) → ⊥)
        → Passing s start placed items rest at now
    left_next {items} {now} key is inserted why =
        let h : Passing s start placed left (p ∷ rest) at blocked = rw parts at h in
        let why : ((v : ℕ) × (finite.get blocked p.reservation.caller ≡ Some v))
        ⊎ (FitsAt (after s placed) p → ⊥) =
        rw (← fits_here) why in
        rw (is, inserted) (record {
          keeps = rw (append_assoc left (p ∷ []) rest) h.keeps;
          answered = h.answered;
          at_is = h.at_is;
          sum = rw (append_assoc left (p ∷ []) rest) h.sum;
          count = omega (arith, length-append left (p ∷ []));
          grown = h.grown;
          free =
              search
              (rules, cases_eq, get-inserted, get-insert_other, filter-append, other, append-nil);
          held =
              search
              (rules, cases_eq, no_middle, own, get-insert_other, filter-append, other, append-nil);
          still = λ same. let before = h.still same in (
            before.0,
            λ front x more parts first. elim (parted left [] front more p x parts) [
              | inl inside ↦ before.1 front x inside.more inside.front_is first
              | inr (inl itself) ↦ λ fits. search (rules, itself, before, h.held)
              | inr (inr behind) ↦ absurd (no_middle behind.more more x (sym behind.rest_is))
            ],
          );
          whole = λ all. let answered = rw (lines_append placed (p ∷ rest)) at (h.whole all).1 in
              let fits = (answered_back s (lines_of placed) (lines_of (p ∷ rest)) answered).0 in
              search (rules, h.held);
        })

-- nothing is left to go over
module _ {s : Allocator} {start : Lineup} {all : List Placed} {blocked : finite.FinMap nat_cmp ℕ}
    (l : Lineup)
    (begun : IsLineup s start) (none : all ≡ [])
    (h : Passing s start l.placed.items l.rest.items all l.at blocked) where
  over : l.placed.items ++ (l.rest.items ++ all) ≡ all_of l
  over = simp (none, append-nil)

  pub over_lined : IsLineup s l
  over_lined = search (rules, few, total_is, total, over)

  pub over_stuck : length l.rest.items ≡ length start.rest.items
      → NoneFits (reached s l) l.rest.items
  over_stuck same = search (rules, length-append)

pub started : (s : Allocator) (l : Lineup) (left rest : List Placed)
    (blocked : finite.FinMap nat_cmp ℕ) → IsLineup s l → left ≡ [] → rest ≡ l.rest.items
    → blocked ≡ finite.empty → Passing s l l.placed.items left rest l.at blocked
started s l left rest blocked h none all empty =
    search (rules, length-append, nothing_in, no_middle)

-- ---- pass after pass

pub record Settling (s : Allocator) (start l : Lineup) (before : ℕ) : Type 0 where
  pub lined : IsLineup s l
  pub keeps : KeepsCallers (all_of start) (all_of l)
  pub fewer : length l.rest.items ≤ before
  pub stuck : before ≡ length l.rest.items → NoneFits (reached s l) l.rest.items
  pub whole : AreAnswered s (lines_of (all_of start))
      → ((l ≡ start) × (before ≡ length l.rest.items + 1)) ⊎ (l.rest.items ≡ [])

-- the position of a lineup is one that its allocator counts
module _ (s : Allocator) (l : Lineup) (h : IsLineup s l) where
  pub lined-least : pos (top s) ≤ℤ (l.at +ℤ pos (2 ^ 50))
  lined-least = at-least s l.placed.items l.at h.sound h.at_is
      (omega (arith, h.few, total_is (all_of l), total_append l.placed.items l.rest.items))

  pub lined-passed : l.at ≤ℤ pos (top s)
  lined-passed = at-passed s l.placed.items l.at h.sound h.at_is

pub at_middle : (before after : List Placed) (p x : Placed)
    → get_or (before ++ p ∷ after) (length before) x ≡ p
at_middle before after p x = grind (arith, common_steps)
