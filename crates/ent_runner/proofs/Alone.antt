-- A frame of one worker: its reservations stand in the order of the systems.
use Rattle.ent_runner.proofs.Common.{rules, ◌≡◌, ℕ, suc, ◌+◌, ◌<◌, ◌≤◌, List, [], ◌∷◌, ◌++◌, length}
use Rattle.ent_runner.proofs.Common.{map, get_or, refl, ap, arith, Some, eq-eqb, append-nil}
use Rattle.ent_runner.proofs.Common.{append_assoc, slice_get, All, AllPairs, flat_map}
use Rattle.ent_runner.proofs.Common.{range_with_len, IsPermutation, get_or-append_seam}
use Rattle.ent_runner.proofs.Common.{length-append, length-range_with_len, All-permutation}
use Rattle.ent_runner.proofs.Common.{IsPermutation-sym, length_permutation, Handle, Call, Command}
use Rattle.ent_runner.proofs.Common.{World, View, Fault, IsFrame, Ends, EndsInOrder, commands_of}
use Rattle.ent_runner.proofs.Common.{requests_by, first_call, calls_in_order}
use Rattle.ent_runner.proofs.Lists.{at_within, all_below, each_of_all}

-- numbers that rise and fill a range are the range
rising_from : (a : ℕ) (xs : List ℕ) → AllPairs (λ m n. m < n) xs → All (λ n. a ≤ n) xs
    → All (λ n. n < a + length xs) xs → xs ≡ range_with_len a (length xs)
rising_from a [] rises least below = refl
rising_from a (x ∷ xs) rises least below =
    let above : All (λ n. x < n) xs = λ k d within. rises 0 (suc k) d (omega arith) (omega arith) in
    let low : a ≤ x = least 0 x (omega arith) in
    let rest =
    rising_from (a + 1) xs
    (λ i j d less within. rises (suc i) (suc j) d (omega arith) (omega arith))
    (λ k d within. omega (arith, above k d within))
    (λ k d within. omega (arith, below (suc k) d (omega arith))) in
    search (rules, rest, first xs x a low above (below 0 x (omega arith)) rest)
  where
    first : (xs : List ℕ) (x a : ℕ) → a ≤ x → All (λ n. x < n) xs → x < a + length (x ∷ xs) → xs
        ≡ range_with_len (a + 1) (length xs) → x ≡ a
    first [] x a low above less rest = omega arith
    first (y ∷ xs) x a low above less rest =
        omega (arith, ap (λ ns. get_or ns 0 0) rest, above 0 y (omega arith))

queues_in_order : (queues before after : List (List Command)) (n : ℕ) → queues ≡ before ++ after
    → n ≡ length before → commands_of queues (range_with_len n (length after))
    ≡ flat_map (λ queue. queue) after
queues_in_order queues before [] n is at = refl
queues_in_order queues before (q ∷ after) n is at = search (
  rules,
  arith,
  get_or-append_seam,
  queues_in_order queues (before ++ q ∷ []) after (n + 1),
  append_assoc before (q ∷ []) after,
  length-append before (q ∷ []),
)

-- the calls of a history whose callers are all the first one
pub calls_back : (history : List Call) → All (λ (call : Call). call.caller < 1) history
    → map first_call (requests_by 0 history) ≡ history
calls_back [] all = refl
calls_back (call ∷ history) all =
    search (
      rules,
      eq-eqb,
      calls_back history (λ k d within. all (suc k) d (omega arith)),
      all 0 call (omega arith),
    )

module _ {S : Type 0} (may : S → View → List Command → Type 0) (systems : List S) (before : World)
    (queues : List (List Command)) where
  in_order : (workers : ℕ) (history : List Call) → workers ≡ 1
      → IsFrame may systems workers before queues history
      → history ≡ calls_in_order queues
  in_order workers history one frame =
      let only = at_within frame.ran 0 (omega (arith, frame.run.each_worker)) in
      let mine : List ℕ = only.0 in
      let work = frame.work 0 mine only.1 in
      let same : IsPermutation mine (range_with_len 0 (length systems)) =
      search (rules, alone frame.ran mine, only.1, frame.run.once, append-nil mine) in
      let long = length_permutation mine (range_with_len 0 (length systems)) same in
      let count = length-range_with_len 0 (length systems) in
      let below =
      All-permutation (λ n. n < length systems) _ mine (IsPermutation-sym mine _ same)
      (all_below _) in
      let rises = each_of_all (AllPairs (λ m n. m < n)) frame.ran 0 mine frame.run.rising only.1 in
      let whole = rising_from 0 mine rises (search rules) (search (rules, below, long, count)) in
      search (
        rules,
        calls_back history (rw one at frame.callers),
        work.calls,
        queues_in_order queues [] queues 0 refl refl,
        whole,
        long,
        count,
        frame.count,
      )
    where
      alone : (ran : List (List ℕ)) (mine : List ℕ) → length ran ≡ 1 → slice_get ran 0 ≡ Some mine
          → ran ≡ mine ∷ []
      alone (x ∷ []) mine e at = cc
      alone _ _ e _ = absurd (omega arith)

  pub ends_in_order : (workers : ℕ) (after : World) (births : List Handle) (faults : List Fault)
      → workers ≡ 1 → Ends may systems workers before queues after births faults
      → EndsInOrder before queues after births faults
  ends_in_order workers after births faults one ends =
      search (rules, in_order workers ends.history one ends.frame)
