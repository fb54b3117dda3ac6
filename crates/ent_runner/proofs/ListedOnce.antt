-- The handles that the queues of a frame list are those that its history gave. After this law
-- neither the workers nor the history count. It speaks of the definitions alone.
use Rattle.ent_runner.proofs.Common.{flat_map-map, rules, ◌≡◌, ℕ, zero, suc, ◌+◌, ◌<◌, ◌≤◌, List}
use Rattle.ent_runner.proofs.Common.{[], ◌∷◌, ◌++◌, length, map, refl, ap, sym, ◌∙◌, arith, Some}
use Rattle.ent_runner.proofs.Common.{Bool, cond, eq-eqb, ne_eqb, append-nil, append_assoc, inl, inr}
use Rattle.ent_runner.proofs.Common.{Result, get_or, swap, set, ◌≢◌, common_steps, ◌==◌, filter}
use Rattle.ent_runner.proofs.Common.{slice_get, All, Contains, flat_map, range_with_len}
use Rattle.ent_runner.proofs.Common.{position_from, eq_by_cmp, IsPermutation, cases_eq}
use Rattle.ent_runner.proofs.Common.{get_or_from_slice_get, slice_get_within, swap_is}
use Rattle.ent_runner.proofs.Common.{Contains-append_left, Contains-append_right}
use Rattle.ent_runner.proofs.Common.{IsPermutation-refl, IsPermutation-sym, IsPermutation-trans}
use Rattle.ent_runner.proofs.Common.{IsPermutation-keeps, IsPermutation-append_left}
use Rattle.ent_runner.proofs.Common.{IsPermutation-append_right, IsPermutation-append_comm, Handle}
use Rattle.ent_runner.proofs.Common.{handle_cmp, Space, born, IsSound, Call, handles_in, given_in}
use Rattle.ent_runner.proofs.Common.{AreGivenOnce, after_history, AllPairs-head, AllPairs-tail}
use Rattle.ent_runner.proofs.Common.{AllPairs-across, AllPairs-IsPermutation, itself}
use Rattle.ent_runner.proofs.Common.{born-IsPermutation, given_in-distinct, given_in-taken, Command}
use Rattle.ent_runner.proofs.Common.{stands_for, World, View, handles_listed, IsFrame, queue_at}
use Rattle.ent_runner.proofs.Lists.{each_of_all}

-- ---- lists in another order

-- two lists in front of a third change places
flipped : {X : Type 0} (xs ys zs : List X) → IsPermutation (xs ++ (ys ++ zs)) (ys ++ (xs ++ zs))
flipped xs ys zs =
    search (
      rules,
      append_assoc,
      IsPermutation-append_left zs (xs ++ ys) (ys ++ xs),
      IsPermutation-append_comm,
    )

module _ {X Y : Type 0} (f : X → List Y) where
  -- an element is put instead of another one
  flat_put : (x : X) (xs : List X) (k : ℕ) → k < length xs
      → IsPermutation (f x ++ flat_map f xs) (f (get_or xs k x) ++ flat_map f (set xs k x))
  flat_put x [] k within = absurd (omega arith)
  flat_put x (y ∷ xs) zero within = flipped (f x) (f y) (flat_map f xs)
  flat_put x (y ∷ xs) (suc k) within =
      IsPermutation-trans _ _ _ (flipped (f x) (f y) _)
      (IsPermutation-trans _ _ _ (search (rules, IsPermutation-append_right, flat_put x xs k))
      (flipped (f y) _ _))

  flat_swap : (xs : List X) (i j : ℕ) → i < length xs → j < length xs
      → IsPermutation (flat_map f xs) (flat_map f (swap xs i j))
  flat_swap [] i j li lj = absurd (omega arith)
  flat_swap (x ∷ xs) zero zero li lj = IsPermutation-refl (flat_map f (x ∷ xs))
  flat_swap (x ∷ xs) zero (suc j) li lj = flat_put x xs j (omega arith)
  flat_swap (x ∷ xs) (suc i) zero li lj = flat_put x xs i (omega arith)
  flat_swap (x ∷ xs) (suc i) (suc j) li lj =
      search (rules, swap_is, IsPermutation-append_right, flat_swap xs i j)

  -- what the elements of a list stand for, in another order
  flat_moved : (xs ys : List X) → IsPermutation xs ys
      → IsPermutation (flat_map f xs) (flat_map f ys)
  flat_moved xs ys moved =
      IsPermutation-keeps xs (λ l. IsPermutation (flat_map f xs) (flat_map f l))
      (IsPermutation-refl (flat_map f xs)) (search (rules, IsPermutation-trans, flat_swap)) ys moved

-- a list of lists of lists
pub flat_flat : {X Y Z : Type 0} (g : Y → List Z) (f : X → List Y) (xs : List X)
    → flat_map g (flat_map f xs) ≡ flat_map (λ x. flat_map g (f x)) xs
flat_flat g f [] = refl
flat_flat g f (x ∷ xs) = grind (arith, common_steps, flat_flat g f xs)

-- the elements of a list by their numbers
flat_by_number : {X Y : Type 0} (f : ℕ → List Y) (g : X → List Y) (a : ℕ) (xs : List X)
    → ((k : ℕ) (x : X) → slice_get xs k ≡ Some x → f (a + k) ≡ g x)
    → flat_map f (range_with_len a (length xs)) ≡ flat_map g xs
flat_by_number f g a [] each = refl
flat_by_number f g a (x ∷ xs) each =
    grind (
      arith,
      common_steps,
      each 0 x refl,
      flat_by_number f g (a + 1) xs (λ k y at. ap f (omega arith) ∙ each (suc k) y at),
    )

-- ---- the calls of a history, caller by caller

-- with one more call of this caller
with_call : (caller : ℕ) (handles : List Handle) (given : ℕ → List Handle) (k : ℕ) → List Handle
with_call caller handles given k = cond (caller == k) (handles ++ given k) (given k)

none_below : (c a many : ℕ) (handles : List Handle) (given : ℕ → List Handle) → c < a
    → flat_map given (range_with_len a many)
    ≡ flat_map (with_call c handles given) (range_with_len a many)
unfolding with_call
none_below c a zero handles given less = refl
none_below c a (suc many) handles given less = search
    (rules, ne_eqb, none_below c (a + 1) many handles given (omega arith))

one_gets : (c a many : ℕ) (handles : List Handle) (given : ℕ → List Handle) → a ≤ c → c < a + many
    → IsPermutation (handles ++ flat_map given (range_with_len a many))
    (flat_map (with_call c handles given) (range_with_len a many))
unfolding with_call
one_gets c a zero handles given from below = absurd (omega arith)
one_gets c a (suc many) handles given from below = elim (cases_eq c a) [
  | inl e ↦ rw
      (eq-eqb c a e, append_assoc, sym (none_below c (a + 1) many handles given (omega arith)))
      (IsPermutation-refl _)
  | inr ne ↦ rw (ne_eqb c a ne) (IsPermutation-trans _ _ _ (flipped handles (given a) _) (search
      (rules, IsPermutation-append_right, one_gets c (a + 1) many handles given)))
]

-- what a history gave to one caller
given_to : List Call → ℕ → List Handle
given_to history caller = given_in (filter (λ (call : Call). call.caller == caller) history)

abbrev no_handles : ℕ → List Handle
no_handles k = []

none_given : (xs : List ℕ) → flat_map no_handles xs ≡ []
none_given [] = refl
none_given (x ∷ xs) = none_given xs

-- each handle was given to one of the callers
by_callers : (workers : ℕ) (history : List Call)
    → All (λ (call : Call). call.caller < workers) history
    → IsPermutation (given_in history) (flat_map (given_to history) (range_with_len 0 workers))
unfolding with_call given_to
by_callers workers [] callers = rw (none_given (range_with_len 0 workers)) (IsPermutation-refl [])
by_callers workers (call ∷ history) callers =
    let rest = by_callers workers history (λ k d within. callers (suc k) d (omega arith)) in
    let less : call.caller < workers = callers 0 call (omega arith) in
    let whole : flat_map (with_call call.caller (handles_in call.reply) (given_to history))
    (range_with_len 0 workers)
    ≡ flat_map (given_to (call ∷ history)) (range_with_len 0 workers) = λ i. flat_map
    (λ k. by_test (call.caller == k) (filter (λ (c : Call). c.caller == k) history) i)
    (range_with_len 0 workers) in
    rw (sym whole)
    (IsPermutation-trans _ _ _ (IsPermutation-append_right (handles_in call.reply) _ _ rest)
    (one_gets call.caller 0 workers (handles_in call.reply) (given_to history) (omega arith)
    (omega arith)))
  where
    by_test : (b : Bool) (others : List Call)
        → cond b (handles_in call.reply ++ given_in others) (given_in others)
        ≡ given_in (cond b (call ∷ others) others)
    by_test b others = search rules

-- ---- the commands of a worker

abbrev replied : ℕ × Result (List Handle) Space → List Handle
replied request = handles_in request.1

replies_are : (commands : List Command)
    → flat_map replied (flat_map stands_for commands) ≡ handles_listed commands
replies_are commands = search (rules, flat_flat, append-nil)

given_replies : (calls : List Call) → given_in calls ≡ flat_map replied
    (map (λ (call : Call). (call.requested, call.reply)) calls)
given_replies calls = search (rules, flat_map-map)

-- ---- where a handle stands

-- two different handles
abbrev pub Differ : Handle → Handle → Type 0
Differ g h = g ≢ h

-- the queue of a system lists the handle, and k others before it
abbrev pub Lists : List (List Command) → ℕ → ℕ → Handle → Type 0
Lists queues system k h = slice_get (handles_listed (queue_at queues system)) k ≡ Some h

-- it stands among those that the queues list
pub contains_listed : (queues : List (List Command)) (system k : ℕ) (h : Handle)
    → Lists queues system k h → Contains (flat_map handles_listed queues) h
contains_listed [] system k h at = absurd (cc)
contains_listed (q ∷ qs) zero k h at =
    search (rules, Contains-append_left, slice_get_within, get_or_from_slice_get)
contains_listed (q ∷ qs) (suc system) k h at =
    search (rules, Contains-append_right, contains_listed qs system)

-- what stands in the first of two lists does not stand in the second
pub not_in_both : (xs ys : List Handle) (h : Handle) → AreGivenOnce (xs ++ ys) → Contains xs h
    → Contains ys h → h ≢ h
not_in_both xs ys h once here there = search (rules, AllPairs-across Differ xs ys once)

-- the first index of a handle that stands there once
pub position_is : (hs : List Handle) (index k : ℕ) (h : Handle) → AreGivenOnce hs
    → slice_get hs k ≡ Some h → position_from (eq_by_cmp handle_cmp h) index hs ≡ Some (index + k)
position_is [] index k h once at = absurd (cc)
position_is (x ∷ hs) index zero h once at = search (rules, itself)
position_is (x ∷ hs) index (suc k) h once at =
    search (
      rules,
      position_is hs (index + 1) k h (AllPairs-tail Differ x hs once),
      each_of_all (Differ x) hs k h (AllPairs-head Differ x hs once),
    )

-- ---- the law

module _ {S : Type 0} (may : S → View → List Command → Type 0) (systems : List S) (workers : ℕ)
    (before : World)
    (queues : List (List Command)) (history : List Call)
    (frame : IsFrame may systems workers before queues
    history) where
  listed_at : ℕ → List Handle
  listed_at n = handles_listed (queue_at queues n)

  -- what was given to a worker is what the queues of its systems list
  given_listed : (k : ℕ) (mine : List ℕ) → slice_get frame.ran k ≡ Some mine
      → given_to history k ≡ flat_map listed_at mine
  unfolding given_to listed_at
  given_listed k mine at =
      search (rules, given_replies, (frame.work k mine at).calls, replies_are, flat_flat)

  -- The queues list the handles that the history gave, each as often as it was given.
  pub listed-IsPermutation : IsPermutation (flat_map handles_listed queues) (given_in history)
  unfolding listed_at
  listed-IsPermutation =
      let by_system =
      flat_by_number listed_at handles_listed 0 queues
      (search (rules, get_or_from_slice_get)) in
      let by_worker =
      flat_by_number (given_to history) (flat_map listed_at) 0 frame.ran
      (search (rules, given_listed)) in
      rw (sym by_system, frame.count) (IsPermutation-sym _ _ (IsPermutation-trans _ _ _
      (rw (sym frame.run.each_worker, by_worker, sym (flat_flat listed_at (λ mine. mine) frame.ran))
      at
      (by_callers workers history frame.callers)) (flat_moved listed_at _ _ frame.run.once)))

  module _ (sound : IsSound before.allocator) where
    -- No handle is listed twice, by one queue or by two.
    pub listed-distinct : AreGivenOnce (flat_map handles_listed queues)
    listed-distinct =
        AllPairs-IsPermutation Differ (search rules) _ _
        (IsPermutation-sym _ _ listed-IsPermutation) (search (rules, given_in-distinct))

    module _ (flushed : before.allocator.asked ≡ 0) where
      -- The handles that the queues list are those that are born in the sync of the frame.
      pub listed-born : IsPermutation (flat_map handles_listed queues)
          (born (after_history before.allocator history))
      listed-born =
          IsPermutation-trans _ _ _ listed-IsPermutation
          (search (
            rules,
            IsPermutation-trans,
            given_in-taken before.allocator history sound frame.legal flushed,
            born-IsPermutation,
          ))
