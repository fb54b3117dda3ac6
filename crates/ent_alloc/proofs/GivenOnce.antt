-- No handle is given twice: each step keeps the list of all given handles free of repetitions.
use Rattle.ent_alloc.proofs.Common.{take, le_of_eq, common_steps, rules, ◌≡◌, ◌≢◌, refl, sym, ℕ}
use Rattle.ent_alloc.proofs.Common.{◌<◌, ◌≤◌, List, [], ◌∷◌, ◌++◌, length, get_or, drop, All}
use Rattle.ent_alloc.proofs.Common.{Contains, IsPermutation, Ok, arith, cases_lt, All-push, All-nil}
use Rattle.ent_alloc.proofs.Common.{All-append, All-head, All-contains, All-contains_itself}
use Rattle.ent_alloc.proofs.Common.{All-weaker, All-take, All-drop, Contains-append_left}
use Rattle.ent_alloc.proofs.Common.{all_pairs_push, All-permutation, Handle, Allocator, after_take}
use Rattle.ent_alloc.proofs.Common.{after_flush, after_alloc, after_free, next, in_front, reply_to}
use Rattle.ent_alloc.proofs.Common.{IsSound, AreApart, IsLive, IsSpent, AreSpent, append-nil}
use Rattle.ent_alloc.proofs.ListLaws.{All-left, All-right, AllPairs-append, AllPairs-left}
use Rattle.ent_alloc.proofs.ListLaws.{AllPairs-across, AllPairs-IsPermutation, same_from_AllPairs}
use Rattle.ent_alloc.proofs.HandleSets.{inserted, in_removed, of_inserted, of_joined}
use Rattle.ent_alloc.proofs.Taken.{after_take-served, after_take-refused}
use Rattle.ent_alloc.proofs.Soundness.{after_alloc-sound, after_take-sound, of_next, All-in_front}
use Rattle.ent_alloc.proofs.Replies.{of_reply, reply-taken, reply-distinct}

-- g comes after h, where both are of one slot
abbrev After : Handle → Handle → Type 0
After h g = g.index ≡ h.index → h.generation < g.generation

-- g does not come before h, where both are of one slot
abbrev NotBefore : Handle → Handle → Type 0
NotBefore h g = g.index ≡ h.index → h.generation ≤ g.generation

-- handles of two slots are in order anyhow
after_if_apart : (h g : Handle) → AreApart h g → After h g
after_if_apart h g apart same = absurd (apart (sym same))

-- what comes after does not come before
not_before_if_after : (h g : Handle) → After h g → NotBefore h g
not_before_if_after h g after same = let later = after same in omega arith

-- ---- which handles are spent

-- what is taken
pub taken-spent : (s : Allocator) (h : Handle) → IsSound s → Contains s.taken h → IsSpent s h
taken-spent s h sound in_taken =
    let across = AllPairs-across AreApart s.taken (s.aside ++ s.pool) sound.apart in
    let among = AllPairs-left AreApart s.taken (s.aside ++ s.pool) sound.apart in
    let taken : All (NotBefore h) s.taken = λ k d lt same. search
    (rules, same_from_AllPairs AreApart s.taken (get_or s.taken k d) h among) in
    let left : All (After h) (s.aside ++ s.pool) =
    search (rules, All-weaker, after_if_apart, All-contains) in
    search (
      rules,
      taken,
      left,
      All-contains,
      sound.live,
      Contains-append_left s.taken (s.aside ++ s.pool) h in_taken,
    )

-- what is alive
pub live-spent : (s : Allocator) (h : Handle) → IsSound s → IsLive s h → IsSpent s h
live-spent s h sound alive =
    let apart = (sound.live h alive).apart in
    search (
      rules,
      le_of_eq,
      All-weaker,
      after_if_apart,
      All-right (AreApart h) s.taken (s.aside ++ s.pool) apart,
      All-left (AreApart h) s.taken (s.aside ++ s.pool) apart,
    )

-- ---- what is spent stays so

module _ (s : Allocator) (h : Handle) (spent : IsSpent s h) where
  in_pool : All (After h) s.pool
  in_pool = All-right (After h) s.aside s.pool spent.left

  with_aside : (pool : List Handle) → All (After h) pool → All (After h) (s.aside ++ pool)
  with_aside pool each =
      All-append (After h) s.aside pool (All-left (After h) s.aside s.pool spent.left) each

  -- it is nothing in the pool
  spent_not_in_pool : (g : Handle) → Contains s.pool g → h ≢ g
  spent_not_in_pool g has same = let after = All-contains (After h) s.pool g in_pool has in
      search rules

  -- after a request
  take-stays_spent : (n : ℕ) → IsSpent (after_take s n) h
  take-stays_spent n =
      let each = in_pool in
      let left = with_aside (drop n s.pool) (All-drop (After h) n s.pool each) in
      let taken : All (NotBefore h) (s.taken ++ take n s.pool) = grind
      (arith, common_steps, All-append, All-weaker, not_before_if_after, All-take) in
      search (
        rules,
        arith,
        cases_lt (length s.pool) n,
        after_take-refused s n,
        after_take-served s n,
        append-nil,
      )

  -- after a flush
  flush-stays_spent : IsSpent (after_flush s) h
  flush-stays_spent =
      let alive = of_joined (NotBefore h) s.live s.taken spent.live spent.taken in
      search (rules, All-nil)

  -- after an allocation
  alloc-stays_spent : (x : Handle) (rest : List Handle) → s.pool ≡ x ∷ rest
      → IsSpent (after_alloc s x) h
  alloc-stays_spent x rest front =
      let first = All-head (After h) x rest (rw front at in_pool) in
      search (
        rules,
        with_aside (drop 1 s.pool),
        All-drop (After h) 1 s.pool in_pool,
        of_inserted (NotBefore h) s.live x (not_before_if_after h x first) spent.live,
      )

  -- after a free: the slot goes on with the next generation, or gives nothing more
  free-stays_spent : (x : Handle) → IsLive s x → IsSpent (after_free s x) h
  free-stays_spent x alive =
      let front = next s.limits x in
      search (
        rules,
        arith,
        with_aside (in_front front s.pool),
        All-in_front (After h) front s.pool,
        of_next (After h) s.limits x,
        spent.live,
        in_pool,
        in_removed,
      )

-- ---- each step

-- a served request gives what was never given
pub take-given : (s : Allocator) (n : ℕ) (given more : List Handle) → IsSound s
    → reply_to s n ≡ Ok more → AreSpent s given → AreSpent (after_take s n) (given ++ more)
take-given s n given more sound served once =
    let from_pool = of_reply s n more served (Contains s.pool) (All-contains_itself s.pool) in
    search (
      rules,
      AllPairs-append (λ g h. g ≢ h) given more once.distinct
          (reply-distinct s n more served sound),
      spent_not_in_pool s,
      once.spent,
      from_pool,
      All-append,
      All-weaker,
      take-stays_spent,
      taken-spent,
      reply-taken,
      after_take-sound,
    )

-- a refused request gives nothing
pub refused-given : (s : Allocator) (n : ℕ) (given : List Handle) → AreSpent s given
    → AreSpent (after_take s n) given
refused-given s n given once = search (rules, All-weaker, take-stays_spent)

-- a flush gives nothing
pub flush-given : (s : Allocator) (given : List Handle) → AreSpent s given
    → AreSpent (after_flush s) given
flush-given s given once = search (rules, All-weaker, flush-stays_spent)

-- an allocation gives what was never given
pub alloc-given : (s : Allocator) (x : Handle) (rest given : List Handle) → IsSound s → s.asked ≡ 0
    → s.pool ≡ x ∷ rest → AreSpent s given → AreSpent (after_alloc s x) (given ++ x ∷ [])
alloc-given s x rest given sound flushed front once =
    let first : Contains s.pool x = rw front (0, omega arith, refl) in
    search (
      rules,
      all_pairs_push (λ g h. g ≢ h) given x once.distinct,
      spent_not_in_pool s,
      once.spent,
      first,
      after_alloc-sound,
      All-push,
      All-weaker,
      alloc-stays_spent,
      live-spent,
      inserted,
    )

-- a free gives nothing
pub free-given : (s : Allocator) (x : Handle) (given : List Handle) → IsLive s x → AreSpent s given
    → AreSpent (after_free s x) given
free-given s x given alive once = search (rules, All-weaker, free-stays_spent)

-- ---- other lists of the same handles, and of fewer

-- in another order
pub given-IsPermutation : (s : Allocator) (given same : List Handle) → IsPermutation given same
    → AreSpent s given → AreSpent s same
given-IsPermutation s given same moved once =
    let distinct =
    AllPairs-IsPermutation (λ g h. g ≢ h) (λ g h ne e. ne (sym e)) given same moved
    once.distinct in
    search (rules, All-permutation)
