-- The births of a frame: the system whose queue lists a handle, and its ordinal there, are its
-- birth in this phase. So births follow from the queues, whatever handles the workers were given.
-- It speaks of the definitions alone.
use Rattle.ent_runner.proofs.Common.{IsPermutation, rules, ◌≡◌, ◌≢◌, ℕ, zero, suc, ◌+◌, ◌^◌, ◌<◌}
use Rattle.ent_runner.proofs.Common.{◌≤◌, List, [], ◌∷◌, ◌++◌, length, ap, arith, eq-eqb, ne_eqb}
use Rattle.ent_runner.proofs.Common.{not, Some, None, common_steps, ◌==◌, filter, All}
use Rattle.ent_runner.proofs.Common.{AllPairs, Contains, flat_map, cases_eq, slice_get_within}
use Rattle.ent_runner.proofs.Common.{slice_get-get_or, length-append, All-nil, All-cons, All-append}
use Rattle.ent_runner.proofs.Common.{All-contains, AllPairs-filter, Contains-permutation}
use Rattle.ent_runner.proofs.Common.{IsPermutation-sym, length_permutation, Handle, available, born}
use Rattle.ent_runner.proofs.Common.{IsSound, IsLive, Call, AreGivenOnce, after_history}
use Rattle.ent_runner.proofs.Common.{filter_all, AllPairs-tail, AllPairs-left, AllPairs-right}
use Rattle.ent_runner.proofs.Common.{Contains-from_stands_in, stands_in-from_Contains}
use Rattle.ent_runner.proofs.Common.{born-IsPermutation, given_in-not_live, Command, World}
use Rattle.ent_runner.proofs.Common.{AreLiving, View, handles_listed, ordinal, listed_birth}
use Rattle.ent_runner.proofs.Common.{birth_in, after_births, no_index, get-with_born, no_entity}
use Rattle.ent_runner.proofs.Common.{history-sound, IsFrame, queue_at, reserved_by}
use Rattle.std.specs.FinMap as map
use Rattle.ent_runner.proofs.ListedOnce.{Differ, Lists, contains_listed, not_in_both, position_is}
use Rattle.ent_runner.proofs.ListedOnce.{listed-IsPermutation, listed-distinct, listed-born}

-- ---- how many handles there are

module _ {X : Type 0} (f : X → ℕ) where
  abbrev HaveTwo : X → X → Type 0
  HaveTwo x y = f x ≢ f y

  -- those that don't have this number
  others : ℕ → List X → List X
  others n xs = filter (λ x. not (f x == n)) xs

  below_others : (n : ℕ) (xs : List X) → All (λ x. f x < suc n) xs
      → All (λ x. f x < n) (others n xs)
  unfolding others
  below_others n [] below = All-nil (λ x. f x < n)
  below_others n (x ∷ xs) below =
      search (
        rules,
        arith,
        below 0 x,
        below_others n xs (λ k d within. below (suc k) d (omega arith)),
        cases_eq,
        eq-eqb,
        All-cons,
        others,
      )

  one_less : (n : ℕ) (xs : List X) → AllPairs HaveTwo xs → length xs ≤ suc (length (others n xs))
  unfolding others
  one_less n [] apart = omega arith
  one_less n (x ∷ xs) apart =
      let same = λ (e : f x ≡ n). ap length (filter_all (λ x. not (f x == n)) xs (λ k d l. search
      (rules, apart 0 (suc k) d, ne_eqb))) in
      grind (
        arith,
        common_steps,
        cases_eq (f x) n,
        same,
        eq-eqb (f x) n,
        ne_eqb (f x) n,
        one_less n xs (AllPairs-tail HaveTwo x xs apart),
      )

  -- elements with numbers below n, no two with the same one, are n at most
  pub few_below : (n : ℕ) (xs : List X) → AllPairs HaveTwo xs → All (λ x. f x < n) xs
      → length xs ≤ n
  unfolding others
  few_below zero [] apart below = omega arith
  few_below zero (x ∷ xs) apart below = absurd (omega (arith, below 0 x (omega arith)))
  few_below (suc n) xs apart below =
      omega (
        arith,
        one_less n xs apart,
        few_below n (others n xs) (AllPairs-filter HaveTwo _ xs apart) (below_others n xs below),
      )

-- one queue lists no more handles than all queues together
few_of_all : (queues : List (List Command)) (n : ℕ) → length (handles_listed (queue_at queues n))
    ≤ length (flat_map handles_listed queues)
few_of_all [] n = omega arith
few_of_all (q ∷ qs) zero = search (rules, length-append)
few_of_all (q ∷ qs) (suc n) = grind (arith, common_steps, few_of_all qs n)

-- ---- the births

-- some queue lists the handle
abbrev pub IsListed : List (List Command) → Handle → Type 0
IsListed queues h = (system : ℕ) × (k : ℕ) × (system < length queues) × Lists queues system k h

all_listed : (queues : List (List Command)) → All (IsListed queues) (flat_map handles_listed queues)
all_listed [] = All-nil (IsListed [])
all_listed (q ∷ qs) = All-append (IsListed (q ∷ qs)) (handles_listed q) (flat_map handles_listed qs)
    (λ k d within. (0, k, omega arith, slice_get-get_or (handles_listed q) k d within))
    (λ k d within. let there = all_listed qs k d within in
    (suc there.0, there.1, omega (arith, there.2), there.3))

-- the birth by the queues, if no handle is listed twice
listed_birth_is : (phase system : ℕ) (queues : List (List Command)) (n k : ℕ) (h : Handle)
    → AreGivenOnce (flat_map handles_listed queues) → Lists queues n k h
    → listed_birth phase system queues h
    ≡ Some (record { frame = phase; system = system + n; ordinal = ordinal k })
listed_birth_is phase system [] n k h once at = absurd (cc)
listed_birth_is phase system (q ∷ qs) zero k h once at =
    search
    (rules, position_is, AllPairs-left Differ (handles_listed q) (flat_map handles_listed qs) once)
listed_birth_is phase system (q ∷ qs) (suc n) k h once at =
    search (
      rules,
      no_index h 0 (handles_listed q),
      Contains-from_stands_in (handles_listed q) h,
      not_in_both (handles_listed q) (flat_map handles_listed qs) h once,
      contains_listed qs n k h at,
      listed_birth_is phase (system + 1) qs n k h
          (AllPairs-right Differ (handles_listed q) (flat_map handles_listed qs) once) at,
    )

module _ {S : Type 0} (may : S → View → List Command → Type 0) (systems : List S) (workers : ℕ)
    (before : World)
    (queues : List (List Command)) (history : List Call)
    (frame : IsFrame may systems workers before queues history)
    (sound : IsSound before.allocator) (flushed : before.allocator.asked ≡ 0) where
  abbrev distinct : AreGivenOnce (flat_map handles_listed queues)
  distinct = listed-distinct may systems workers before queues history frame sound

  handles : List Handle
  handles = born (after_history before.allocator history)

  listed_are_born : IsPermutation (flat_map handles_listed queues) handles
  unfolding handles
  listed_are_born = search (rules, listed-born)

  -- All queues together list fewer than 2^32 handles, so no ordinal is cut off.
  pub listed-few : length (flat_map handles_listed queues) < 2 ^ 32
  unfolding handles
  listed-few =
      let after = after_history before.allocator history in
      let kept : IsSound after = search (rules, history-sound) in
      omega (
        arith,
        few_below (λ (h : Handle). h.index) after.limits.slots (available after) kept.apart
            (search (rules, kept.within)),
        kept.limits.slots,
        length_permutation after.taken handles (born-IsPermutation after),
        length_permutation _ handles listed_are_born,
        length-append after.taken (after.aside ++ after.pool),
      )

  -- A handle that a system lists after k others has this phase, this system and k as its birth.
  pub listed-birth : (system k : ℕ) (h : Handle) → Lists queues system k h
      → birth_in before.phase queues (born (after_history before.allocator history)) h
      ≡ record { frame = before.phase; system = system; ordinal = k }
  unfolding handles
  listed-birth system k h at = search (
    rules,
    slice_get_within (handles_listed (queue_at queues system)) k h at,
    few_of_all queues system,
    listed-few,
    listed_birth_is before.phase 0 queues system k h distinct at,
  )

  -- Who is born is listed by some queue.
  pub born-listed : (h : Handle) → Contains (born (after_history before.allocator history)) h
      → IsListed queues h
  unfolding handles
  born-listed h there = search (
    rules,
    All-contains (IsListed queues) (flat_map handles_listed queues) h (all_listed queues),
    Contains-permutation handles (flat_map handles_listed queues) h,
    IsPermutation-sym,
    listed_are_born,
  )

  -- After the births it is there with this birth, and without components.
  pub listed-enters : (system k : ℕ) (h : Handle) → Lists queues system k h
      → map.get (after_births queues (reserved_by history before)).entities h
      ≡ Some
      (record {
        birth = record { frame = before.phase; system = system; ordinal = k };
        components = map.empty;
      })
  unfolding handles
  listed-enters system k h at =
      search (
        rules,
        get-with_born,
        listed-birth system k h at,
        stands_in-from_Contains,
        Contains-permutation,
        listed_are_born,
        contains_listed,
      )

  -- Who is not listed is as before.
  pub unlisted-stays : (h : Handle) → ¬ (IsListed queues h)
      → map.get (after_births queues (reserved_by history before)).entities h
      ≡ map.get before.entities h
  unfolding handles
  unlisted-stays h away =
      search (rules, get-with_born, handles, Contains-from_stands_in, born-listed)

  -- Who is listed was not there before the frame.
  pub listed-new : AreLiving before.allocator before.entities → (system k : ℕ) (h : Handle)
      → Lists queues system k h → map.get before.entities h ≡ None
  listed-new living system k h at =
      let there =
      Contains-permutation _ _ h
      (listed-IsPermutation may systems workers before queues history frame)
      (contains_listed queues system k h at) in
      search (
        rules,
        no_entity,
        living h,
        All-contains (λ x. ¬ (IsLive before.allocator x)) _ h
            (given_in-not_live before.allocator history sound frame.legal) there,
      )
