-- Laws of lists: filters that keep all or nothing, parts of joined lists, pairs, functions that
-- agree on a list, and a list from its other end.
use Rattle.ent_alloc.proofs.Common.{cases_eq, rules, ◌≡◌, refl, ap, ℕ, zero, suc, ◌+◌, ◌-◌, ◌<◌}
use Rattle.ent_alloc.proofs.Common.{Bool, true, false, eqb, List, [], ◌∷◌, ◌++◌, length, get_or}
use Rattle.ent_alloc.proofs.Common.{take, drop, filter, All, AllPairs, Contains, arith, ◌≢◌, swap}
use Rattle.ent_alloc.proofs.Common.{IsPermutation, map, leb, ◌⊎◌, common_steps, get_or-take}
use Rattle.ent_alloc.proofs.Common.{get_or-drop, get_or_append_left, length-append, length-take}
use Rattle.ent_alloc.proofs.Common.{length-drop, get_or_default, get_or-append-add, cases_lt}
use Rattle.ent_alloc.proofs.Common.{nat_tests, length-swap, swapped_from_swap, IsPermutation-keeps}
use Rattle.ent_alloc.proofs.Common.{All-nil, All-head, All-tail, All-cons, All-append}
use Rattle.ent_alloc.proofs.Common.{AllPairs-cons, reverse, sym, ◌∙◌, list_any, length-reverse}
use Rattle.ent_alloc.proofs.Common.{take-append-drop, take_all, drop_all, drop_at, take_at}
use Rattle.ent_alloc.proofs.Common.{reverse-append, Handle, IsPermutation-reverse}
use Rattle.ent_alloc.proofs.Common.{list_any-IsPermutation}

pub eqb_sym : (a b : ℕ) → eqb a b ≡ eqb b a
eqb_sym a b = grind (arith, nat_tests)

-- what the tests of a number say that is an index, comes before it, or after it
pub record IsAt (n index : ℕ) : Type 0 where
  pub same : eqb n index ≡ true
  pub later : leb (index + 1) n ≡ false
  pub from : leb index n ≡ true
  pub off : n - index ≡ 0

pub record IsBefore (n index : ℕ) : Type 0 where
  pub same : eqb n index ≡ false
  pub later : leb (index + 1) n ≡ false
  pub from : leb index n ≡ false

pub record IsAfter (n index : ℕ) : Type 0 where
  pub same : eqb n index ≡ false
  pub later : leb (index + 1) n ≡ true
  pub from : leb index n ≡ true
  pub off : n - index ≡ suc (n - (index + 1))

pub tests_of : (n index : ℕ) → IsAt n index ⊎ (IsBefore n index ⊎ IsAfter n index)
tests_of n index = grind (arith, common_steps)

pub filter_all : {X : Type 0} (p : X → Bool) (xs : List X) → All (λ x. p x ≡ true) xs
    → filter p xs ≡ xs
filter_all p [] h = refl
filter_all p (x ∷ xs) h =
    search (rules, arith, h 0 x, filter_all p xs, All-tail (λ x. p x ≡ true) x xs h)

pub filter_none : {X : Type 0} (p : X → Bool) (xs : List X) → All (λ x. p x ≡ false) xs
    → filter p xs ≡ []
filter_none p [] h = refl
filter_none p (x ∷ xs) h =
    grind (arith, common_steps, h 0 x, filter_none p xs (All-tail (λ x. p x ≡ false) x xs h))

drop-nil : {X : Type 0} (n : ℕ) → drop {A = X} n [] ≡ []
drop-nil n = search (rules)

take-nil : {X : Type 0} (n : ℕ) → take {A = X} n [] ≡ []
take-nil n = search (rules)

pub drop-append : {X : Type 0} (n : ℕ) (xs ys : List X)
    → drop n (xs ++ ys) ≡ drop n xs ++ drop (n - length xs) ys
drop-append n [] ys = search (rules, drop-nil)
drop-append zero (x ∷ xs) ys = search rules
drop-append (suc n) (x ∷ xs) ys = search (rules, drop-append n xs ys)

pub take-append : {X : Type 0} (n : ℕ) (xs ys : List X)
    → take n (xs ++ ys) ≡ take n xs ++ take (n - length xs) ys
take-append n [] ys = search (rules, take-nil)
take-append zero (x ∷ xs) ys = search rules
take-append (suc n) (x ∷ xs) ys = search (rules, take-append n xs ys)

-- what holds of two joined lists holds of each
pub All-left : {X : Type 0} (P : X → Type 0) (xs ys : List X) → All P (xs ++ ys) → All P xs
All-left P xs ys h i d lt = search (rules, get_or_append_left, length-append)

pub All-right : {X : Type 0} (P : X → Type 0) (xs ys : List X) → All P (xs ++ ys) → All P ys
All-right P xs ys h i d lt = search (rules, get_or-append-add, length-append)

-- pairs of a list and of its parts
module _ {X : Type 0} (R : X → X → Type 0) where
  pub AllPairs-take : (n : ℕ) (xs : List X) → AllPairs R xs → AllPairs R (take n xs)
  AllPairs-take n xs h i j d lt in_part = search (rules, get_or-take, length-take)

  pub AllPairs-drop : (n : ℕ) (xs : List X) → AllPairs R xs → AllPairs R (drop n xs)
  AllPairs-drop n xs h i j d lt in_part = search (rules, get_or-drop, length-drop)

  pub AllPairs-head : (x : X) (xs : List X) → AllPairs R (x ∷ xs) → All (R x) xs
  AllPairs-head x xs h i d lt = h 0 (suc i) d (omega arith) (omega arith)

  pub AllPairs-tail : (x : X) (xs : List X) → AllPairs R (x ∷ xs) → AllPairs R xs
  AllPairs-tail x xs h i j d lt in_part = h (suc i) (suc j) d (omega arith) (omega arith)

  pub AllPairs-right : (xs ys : List X) → AllPairs R (xs ++ ys) → AllPairs R ys
  AllPairs-right xs ys h i j d lt within = search (rules, get_or-append-add, length-append)

  pub AllPairs-left : (xs ys : List X) → AllPairs R (xs ++ ys) → AllPairs R xs
  AllPairs-left xs ys h i j d lt in_part = search (rules, get_or_append_left, length-append)

  -- each element of the one list stands before each of the other
  pub AllPairs-across : (xs ys : List X) → AllPairs R (xs ++ ys) → All (λ x. All (R x) ys) xs
  AllPairs-across [] ys h = All-nil (λ x. All (R x) ys)
  AllPairs-across (x ∷ xs) ys h =
      All-cons (λ x. All (R x) ys) x xs (All-right (R x) xs ys (AllPairs-head x (xs ++ ys) h))
      (AllPairs-across xs ys (AllPairs-tail x (xs ++ ys) h))

  pub AllPairs-append : (xs ys : List X) → AllPairs R xs → AllPairs R ys
      → All (λ x. All (R x) ys) xs → AllPairs R (xs ++ ys)
  AllPairs-append [] ys h k across = k
  AllPairs-append (x ∷ xs) ys h k across = AllPairs-cons R x (xs ++ ys)
      (All-append (R x) xs ys (AllPairs-head x xs h) (All-head (λ x. All (R x) ys) x xs across))
      (AllPairs-append xs ys (AllPairs-tail x xs h) k (All-tail (λ x. All (R x) ys) x xs across))

  AllPairs-at : (xs : List X) (x y : X) (i j : ℕ) → AllPairs R xs → i < j → j < length xs
      → get_or xs i x ≡ x → get_or xs j y ≡ y → R x y
  AllPairs-at xs x y i j h lt within at_i at_j = search (rules, h i j x lt within, get_or_default)

  -- of two elements of which neither stands before the other in the relation, one is the other
  pub same_from_AllPairs : (xs : List X) (x y : X) → AllPairs R xs → Contains xs x → Contains xs y
      → ¬ (R x y) → ¬ (R y x) → x ≡ y
  same_from_AllPairs xs x y h in_x in_y not_before not_behind = search
      (rules, cases_lt in_x.0 in_y.0, cases_lt in_y.0 in_x.0, AllPairs-at, get_or_default)

module _ {X : Type 0} (R : X → X → Type 0) (both : (x y : X) → R x y → R y x) where
  -- of each two positions
  AtPositions : List X → Type 0
  AtPositions xs = (i j : ℕ) (d : X) → i ≢ j → i < length xs → j < length xs
      → R (get_or xs i d) (get_or xs j d)

  -- the earlier of two positions may come second
  positions_from_pairs : (xs : List X) → AllPairs R xs → AtPositions xs
  unfolding AtPositions
  positions_from_pairs xs h i j d apart li lj = search (rules, cases_lt i j, both)

  -- a swap keeps it
  swap_keeps : (xs : List X) (a b : ℕ) → a < length xs → b < length xs → AtPositions xs
      → AtPositions (swap xs a b)
  unfolding AtPositions
  swap_keeps xs a b la lb h i j d apart li lj =
      let moved = swapped_from_swap xs (swap xs a b) a b d la lb refl in
      search (rules, cases_eq i a, cases_eq i b, cases_eq j a, cases_eq j b, moved, length-swap)

  -- the same list in another order has the same pairs, where the relation goes both ways
  pub AllPairs-IsPermutation : (xs ys : List X) → IsPermutation xs ys → AllPairs R xs
      → AllPairs R ys
  unfolding AtPositions
  AllPairs-IsPermutation xs ys moved h i j d lt within =
      IsPermutation-keeps xs AtPositions (positions_from_pairs xs h)
      (λ l a b la lb k. swap_keeps l a b la lb k) ys moved i j d (omega arith) (omega arith) within

-- two functions that agree at each element of a list
pub map_alike : {X : Type 0} (f g : ℕ → X) (xs : List ℕ)
    → ((k : ℕ) → k < length xs → f (get_or xs k 0) ≡ g (get_or xs k 0)) → map f xs ≡ map g xs
map_alike f g [] alike = refl
map_alike f g (x ∷ xs) alike =
    search (rules, alike 0, map_alike f g xs (λ k below. alike (suc k) (omega arith)))

module _ {X : Type 0} (n : ℕ) (xs : List X) where
  -- how many stand before the last n
  abbrev before : ℕ
  before = length xs - n

  turned : reverse xs ≡ reverse (drop before xs) ++ reverse (take before xs)
  turned = ap reverse (sym (take-append-drop before xs))
      ∙ reverse-append (take before xs) (drop before xs)

  long : length (reverse (drop before xs)) ≡ length xs - before
  long = length-reverse (drop before xs) ∙ length-drop before xs

  pub drop-reverse : drop n (reverse xs) ≡ reverse (take before xs)
  drop-reverse = search (rules, long, cases_lt, drop_all, length-reverse, turned, drop_at)

  pub take-reverse : take n (reverse xs) ≡ reverse (drop before xs)
  take-reverse = search (rules, long, cases_lt, take_all, length-reverse, turned, take_at)

-- a test of the elements doesn't see their order
pub list_any-reverse : (p : Handle → Bool) (hs : List Handle)
    → list_any p (reverse hs) ≡ list_any p hs
list_any-reverse p hs = search (rules, list_any-IsPermutation, IsPermutation-reverse)
