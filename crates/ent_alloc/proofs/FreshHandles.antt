-- Laws of `fresh`, the first occupants of slots that were never made. Nothing here computes it at a
-- number.
use Rattle.ent_alloc.proofs.Common.{nat_tests, common_steps, rules, ◌≡◌, refl, ap, ℕ, zero, suc}
use Rattle.ent_alloc.proofs.Common.{◌+◌, ◌-◌, ◌<◌, ◌≤◌, List, [], ◌∷◌, ◌++◌, length, get_or, take}
use Rattle.ent_alloc.proofs.Common.{drop, filter, All, AllPairs, arith, lt-leb, All-weaker}
use Rattle.ent_alloc.proofs.Common.{filter-append, Handle, fresh, is_old, is_fresh, AreApart}
use Rattle.ent_alloc.proofs.Common.{lt-ltb, append-nil}
use Rattle.ent_alloc.proofs.ListLaws.{filter_all, filter_none, take-append, drop-append}

-- the first occupant of a slot
abbrev pub first_of_slot : ℕ → Handle
first_of_slot index = record { index = index; generation = 1 }

-- how many they are
pub length-fresh : (index slots : ℕ) → length (fresh index slots) ≡ slots
unfolding fresh
length-fresh index zero = refl
length-fresh index (suc slots) = ap (λ n. suc n) (length-fresh (index + 1) slots)

-- the next of them, and the rest
pub fresh-next : (index slots : ℕ)
    → fresh index (suc slots) ≡ first_of_slot index ∷ fresh (index + 1) slots
unfolding fresh
fresh-next index slots = refl

-- of no slots there are none
pub fresh-none : (index : ℕ) → fresh index 0 ≡ []
unfolding fresh
fresh-none index = refl

-- the one at a position
pub get_or-fresh : (index slots k : ℕ) (d : Handle) → k < slots
    → get_or (fresh index slots) k d ≡ first_of_slot (index + k)
unfolding fresh
get_or-fresh index zero k d lt = absurd (omega arith)
get_or-fresh index (suc slots) zero d lt = ap first_of_slot (omega arith)
get_or-fresh index (suc slots) (suc k) d lt =
    search (rules, arith, get_or-fresh (index + 1) slots k)

-- what is left of them
pub drop-fresh : (k index slots : ℕ) → drop k (fresh index slots) ≡ fresh (index + k) (slots - k)
unfolding fresh
drop-fresh zero index slots = search rules
drop-fresh (suc k) index zero = search rules
drop-fresh (suc k) index (suc slots) = search (rules, drop-fresh k (index + 1) slots)

-- the front of them
pub take-fresh : (k index slots : ℕ) → k ≤ slots → take k (fresh index slots) ≡ fresh index k
unfolding fresh
take-fresh zero index slots le = refl
take-fresh (suc k) index zero le = absurd (omega arith)
take-fresh (suc k) index (suc slots) le =
    ap (first_of_slot index ∷◌) (take-fresh k (index + 1) slots (omega arith))

-- each is of a slot in the range, and its first occupant
pub All-fresh : (P : Handle → Type 0) (index slots : ℕ)
    → ((k : ℕ) → k < slots → P (first_of_slot (index + k))) → All P (fresh index slots)
All-fresh P index slots each k d lt = search (rules, length-fresh, get_or-fresh, each)

-- no two of them are of one slot
pub fresh_apart : (index slots : ℕ) → AllPairs AreApart (fresh index slots)
fresh_apart index slots i j d lt within same = search (rules, length-fresh, get_or-fresh)

-- none of them is old where they begin
pub no_fresh_is_old : (made index slots : ℕ) → made ≤ index
    → filter (is_old made) (fresh index slots) ≡ []
no_fresh_is_old made index slots le = filter_none (is_old made) (fresh index slots) (λ k d lt. grind
    (arith, nat_tests, common_steps, length-fresh, get_or-fresh))

-- so a filter of the fresh keeps all
pub all_fresh_are_fresh : (made index slots : ℕ) → made ≤ index
    → filter (is_fresh made) (fresh index slots) ≡ fresh index slots
all_fresh_are_fresh made index slots le =
    filter_all (is_fresh made) (fresh index slots)
    (λ k d lt. grind (arith, nat_tests, common_steps, length-fresh, get_or-fresh))

-- old handles are no fresh ones
pub no_old_is_fresh : (made : ℕ) (old : List Handle) → All (λ h. h.index < made) old
    → filter (is_fresh made) old ≡ []
no_old_is_fresh made old below = search (rules, filter_none, All-weaker, lt-leb)

-- a filter of the old keeps all old handles
pub all_old_are_old : (made : ℕ) (old : List Handle) → All (λ h. h.index < made) old
    → filter (is_old made) old ≡ old
all_old_are_old made old below = search (rules, filter_all, All-weaker, lt-ltb)

-- old handles and then fresh ones: a filter takes them apart again
module _ (made slots : ℕ) (old : List Handle) (below : All (λ h. h.index < made) old) where
  -- the old ones
  pub old_of_joined : filter (is_old made) (old ++ fresh made slots) ≡ old
  old_of_joined = search (rules, filter-append, all_old_are_old, no_fresh_is_old, append-nil)

  -- the fresh ones
  pub fresh_of_joined : filter (is_fresh made) (old ++ fresh made slots) ≡ fresh made slots
  fresh_of_joined = search (rules, filter-append, no_old_is_fresh, all_fresh_are_fresh)

  -- the front of both
  pub take_joined : (k : ℕ) → k ≤ length old + slots → take k (old ++ fresh made slots) ≡ take k old
      ++ fresh made (k - length old)
  take_joined k enough = search (rules, take-append, take-fresh)

  -- what is left of both
  pub drop_joined : (k : ℕ) → drop k (old ++ fresh made slots) ≡ drop k old
      ++ fresh (made + (k - length old)) (slots - (k - length old))
  drop_joined k = search (rules, drop-append, drop-fresh)
