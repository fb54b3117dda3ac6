-- What a served reply lists: handles of different slots, none of them alive, all of them taken, and
-- none twice in two replies.
use Rattle.ent_alloc.proofs.Common.{rules, ◌≡◌, ◌≢◌, refl, sym, ap, subst, ℕ, ◌<◌, ◌≤◌, not, List}
use Rattle.ent_alloc.proofs.Common.{◌++◌, length, take, filter, All, AllPairs, Contains}
use Rattle.ent_alloc.proofs.Common.{IsPermutation, Ok, Err, arith, common_steps, lt-leb, le-leb}
use Rattle.ent_alloc.proofs.Common.{nat_tests, All-take, Contains-append_right, All-contains_itself}
use Rattle.ent_alloc.proofs.Common.{IsPermutation-refl, IsPermutation-sym, IsPermutation-trans}
use Rattle.ent_alloc.proofs.Common.{IsPermutation-append, IsPermutation-reverse}
use Rattle.ent_alloc.proofs.Common.{IsPermutation-filter_both, All-permutation, Handle, Allocator}
use Rattle.ent_alloc.proofs.Common.{available, after_take, listed, reply_to, is_old, is_fresh}
use Rattle.ent_alloc.proofs.Common.{IsSound, AreApart, IsLive}
use Rattle.ent_alloc.proofs.ListLaws.{AllPairs-right, AllPairs-take, AllPairs-IsPermutation}
use Rattle.ent_alloc.proofs.ListLaws.{All-right}
use Rattle.ent_alloc.proofs.Taken.{after_take-served}

pub fresh_is_not_old : (made : ℕ) (h : Handle) → is_fresh made h ≡ not (is_old made h)
fresh_is_not_old made h = grind (arith, nat_tests)

-- a reply lists what it gives in another order
pub listed-IsPermutation : (made : ℕ) (given : List Handle)
    → IsPermutation given (listed made given)
listed-IsPermutation made given = search (
  rules,
  IsPermutation-trans given (filter (is_old made) given ++ filter (is_fresh made) given),
  IsPermutation-filter_both,
  fresh_is_not_old,
  IsPermutation-append,
  IsPermutation-reverse,
  IsPermutation-refl,
)

-- a request for no more than the pool has
pub reply-served : (s : Allocator) (n : ℕ) → n ≤ length s.pool
    → reply_to s n ≡ Ok (listed s.made (take n s.pool))
reply-served s n enough = search (rules, le-leb)

pub reply-refused : (s : Allocator) (n : ℕ) → length s.pool < n
    → reply_to s n ≡ Err (record { wanted = n; left = length s.pool })
reply-refused s n short = search (rules, lt-leb)

-- what a served reply tells of the pool
pub served_from : (s : Allocator) (n : ℕ) (given : List Handle) → reply_to s n ≡ Ok given
    → (n ≤ length s.pool) × (given ≡ listed s.made (take n s.pool))
served_from s n given is = grind (arith, common_steps)

pub not_apart : (h : Handle) → ¬ (AreApart h h)
not_apart h apart = apart refl

pub apart_both : (g h : Handle) → AreApart g h → AreApart h g
apart_both g h apart same = apart (sym same)

-- handles of different slots are different
pub distinct_from_apart : (handles : List Handle) → AllPairs AreApart handles
    → AllPairs (λ g h. g ≢ h) handles
distinct_from_apart handles h i j d lt within same = h i j d lt within (ap (λ x. x.index) same)

-- what holds of all that may be given holds of the pool
pub of_pool : (P : Handle → Type 0) (s : Allocator) → All P (available s) → All P s.pool
of_pool P s all = All-right P s.aside s.pool (All-right P s.taken (s.aside ++ s.pool) all)

module _ (s : Allocator) (n : ℕ) (given : List Handle) (is : reply_to s n ≡ Ok given) where
  -- it lists the front of the pool in another order
  pub reply-IsPermutation : IsPermutation (take n s.pool) given
  reply-IsPermutation = search (rules, served_from, listed-IsPermutation)

  pub taken-after_served : (after_take s n).taken ≡ s.taken ++ take n s.pool
  taken-after_served = search (rules, after_take-served, served_from)

  pub of_reply : (P : Handle → Type 0) → All P s.pool → All P given
  of_reply P all = search (rules, All-permutation, reply-IsPermutation, All-take)

  -- each is taken, and nothing else is that was not
  pub reply-taken : All (Contains (after_take s n).taken) given
  reply-taken =
      All-permutation (Contains (after_take s n).taken) (take n s.pool) given reply-IsPermutation
      (subst (λ taken. All (Contains taken) (take n s.pool)) (sym taken-after_served)
      (search (rules, Contains-append_right, All-contains_itself)))

  -- so what is taken is what was taken and the reply
  pub taken-IsPermutation : IsPermutation (s.taken ++ given) (after_take s n).taken
  taken-IsPermutation =
      search (
        rules,
        taken-after_served,
        IsPermutation-append,
        IsPermutation-refl,
        IsPermutation-sym,
        reply-IsPermutation,
      )

  -- no two are of one slot
  pub reply-apart : IsSound s → AllPairs AreApart given
  reply-apart h =
      AllPairs-IsPermutation AreApart apart_both (take n s.pool) given reply-IsPermutation
      (AllPairs-take AreApart n s.pool
      (AllPairs-right AreApart s.aside s.pool
      (AllPairs-right AreApart s.taken (s.aside ++ s.pool) h.apart)))

  pub reply-distinct : IsSound s → AllPairs (λ g h. g ≢ h) given
  reply-distinct h = distinct_from_apart given (reply-apart h)

  -- none is of a slot whose occupant is alive
  pub reply-apart_from_live : IsSound s → (x : Handle) → IsLive s x → All (AreApart x) given
  reply-apart_from_live h x alive =
      of_reply (AreApart x) (of_pool (AreApart x) s (h.live x alive).apart)

  pub reply-not_live : IsSound s → All (λ x. ¬ (IsLive s x)) given
  reply-not_live h k d lt alive = search (rules, not_apart, reply-apart_from_live)
