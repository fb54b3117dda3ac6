-- The calls by falling high: a list that falls, has the same elements and weighs the same is the
-- same list.
use Rattle.ent_shared.proofs.Common.{suc, get_or, rules, ◌≡◌, ℕ, ◌<◌, ◌⊎◌, ℤ, ◌≤ℤ◌, ◌<ℤ◌, List, []}
use Rattle.ent_shared.proofs.Common.{◌∷◌, refl, arith, common_steps, cond, int_lt, IsPermutation}
use Rattle.ent_shared.proofs.Common.{sum_by, All, Contains, All-tail, All-nil, All-cons}
use Rattle.ent_shared.proofs.Common.{All-contains, IsPermutation-refl, IsPermutation-sym}
use Rattle.ent_shared.proofs.Common.{IsPermutation-trans, IsPermutation-cons, IsPermutation-middle}
use Rattle.ent_shared.proofs.Common.{All-permutation, sum_by-IsPermutation, ints, by_lt_z}
use Rattle.ent_shared.proofs.Common.{Reservation, low, Follow, insert_reservation, by_falling_high}

pub contains_cases : {X : Type 0} (y : X) (ys : List X) (x : X) → Contains (y ∷ ys) x
    → (x ≡ y) ⊎ Contains ys x
contains_cases y ys x it = search rules

-- a call is above, or not below, all of these
abbrev pub Above : Reservation → List Reservation → Type 0
Above c cs = All (λ (d : Reservation). d.high <ℤ c.high) cs

abbrev pub NotBelow : Reservation → List Reservation → Type 0
NotBelow c cs = All (λ (d : Reservation). d.high ≤ℤ c.high) cs

abbrev pub Falls : List Reservation → Type 0
Falls [] = Unit {0}
Falls (c ∷ cs) = NotBelow c cs × Falls cs

abbrev pub FallsStrictly : List Reservation → Type 0
FallsStrictly [] = Unit {0}
FallsStrictly (c ∷ cs) = Above c cs × FallsStrictly cs

-- by falling high they are the same, in another order
inserted : (c : Reservation) (cs : List Reservation)
    → IsPermutation (c ∷ cs) (insert_reservation c cs)
inserted c [] = IsPermutation-refl (c ∷ [])
inserted c (d ∷ ds) =
    let rest = IsPermutation-cons d (c ∷ ds) _ (inserted c ds) in
    let swapped = IsPermutation-middle (d ∷ []) c ds in
    grind (arith, common_steps, IsPermutation-refl, IsPermutation-trans, IsPermutation-sym)

pub sorted : (cs : List Reservation) → IsPermutation cs (by_falling_high cs)
sorted [] = IsPermutation-refl []
sorted (c ∷ cs) =
    IsPermutation-trans _ _ _ (IsPermutation-cons c cs _ (sorted cs))
    (inserted c (by_falling_high cs))

pub all_sorted : (P : Reservation → Type 0) (cs : List Reservation) → All P cs
    → All P (by_falling_high cs)
all_sorted P cs all = All-permutation P cs (by_falling_high cs) (sorted cs) all

pub sum_sorted : (f : Reservation → ℕ) (cs : List Reservation)
    → sum_by f (by_falling_high cs) ≡ sum_by f cs
sum_sorted f cs = sum_by-IsPermutation f cs (by_falling_high cs) (sorted cs)

falls_inserted : (c : Reservation) (cs : List Reservation) → Falls cs
    → Falls (insert_reservation c cs)
falls_inserted c [] falls = search (rules, All-nil)
falls_inserted c (d ∷ ds) falls =
    let perm = All-permutation (λ (e : Reservation). e.high ≤ℤ d.high) _ _ (inserted c ds) in
    search (rules, ints, c.high, perm, All-cons, falls_inserted c ds falls.1, by_lt_z)

pub falls_sorted : (cs : List Reservation) → Falls (by_falling_high cs)
falls_sorted [] = tt
falls_sorted (c ∷ cs) = falls_inserted c (by_falling_high cs) (falls_sorted cs)

-- 1 for each call that is not below
abbrev reaches : ℤ → Reservation → ℕ
reaches at c = cond (int_lt c.high at) 0 1

none_reach : (at : ℤ) (cs : List Reservation) → All (λ (c : Reservation). c.high <ℤ at) cs
    → sum_by (reaches at) cs ≡ 0
none_reach at [] all = refl
none_reach at (c ∷ cs) all =
    let rest = none_reach at cs (λ i d lt. all (suc i) d (omega arith)) in
    grind (arith, ints, common_steps, all 0 c (omega arith))

reached_by_none : (at : ℤ) (cs : List Reservation) → sum_by (reaches at) cs ≡ 0
    → All (λ (c : Reservation). c.high <ℤ at) cs
reached_by_none at [] none = All-nil (λ (c : Reservation). c.high <ℤ at)
reached_by_none at (c ∷ cs) none = grind (arith, common_steps)

-- the two lists weigh the same, however each call is weighed
abbrev pub WeighSame : List Reservation → List Reservation → Type 0
WeighSame xs ys = (f : Reservation → ℕ) → sum_by f xs ≡ sum_by f ys

inside_rest : (y : Reservation) (ys xs : List Reservation)
    → All (λ (c : Reservation). c.high <ℤ y.high) xs → All (Contains (y ∷ ys)) xs
    → All (Contains ys) xs
inside_rest y ys xs below within i d lt = grind
    (arith, common_steps, ints, contains_cases y ys (get_or xs i d) (within i d lt))

pub same_fall : (xs ys : List Reservation) → Falls xs → FallsStrictly ys → All (Contains ys) xs
    → WeighSame xs ys → xs ≡ ys
same_fall [] [] falls strictly within same = refl
same_fall [] (y ∷ ys) falls strictly within same = grind (arith, common_steps, same (λ _. 1))
same_fall (x ∷ xs) [] falls strictly within same =
    absurd (let inside = (within 0 x (omega arith)).1 in omega arith)
same_fall (x ∷ xs) (y ∷ ys) falls strictly within same =
    let total = same (reaches y.high) in
    let ys_none = none_reach y.high ys strictly.0 in
    let cases = contains_cases y ys x (within 0 x (omega arith)) in
    let less = All-contains (λ (d : Reservation). d.high <ℤ y.high) ys x strictly.0 in
    let none : x.high <ℤ y.high → sum_by (reaches y.high) xs ≡ 0 = search (rules, none_reach) in
    let first : x ≡ y = grind (arith, ints, common_steps, cases, less, none) in
    let below = reached_by_none y.high xs (grind (arith, ints, common_steps)) in
    let rest_within = inside_rest y ys xs below (All-tail (Contains (y ∷ ys)) x xs within) in
    let rest_same : WeighSame xs ys = λ f. grind (arith, common_steps, same f) in
    let rest = same_fall xs ys falls.1 strictly.1 rest_within rest_same in
    λ i. first i ∷ rest i

-- calls that follow each other fall
pub follow_below : (high : ℤ) (cs : List Reservation) (end : ℤ) → Follow high cs end
    → All (λ (c : Reservation). c.high ≤ℤ high) cs
follow_below high [] end f = All-nil _
follow_below high (c ∷ cs) end f = grind (arith, common_steps, follow_below (low c) cs end f.2)

pub follow_falls : (high : ℤ) (cs : List Reservation) (end : ℤ) → Follow high cs end
    → FallsStrictly cs
follow_falls high [] end f = tt
follow_falls high (c ∷ cs) end f = search
    (rules, ints, follow_below (low c) cs end f.2, follow_falls (low c) cs end f.2, c.high)

pub follow_requests : (high : ℤ) (cs : List Reservation) (end : ℤ) → Follow high cs end
    → All (λ (c : Reservation). 0 < c.requested) cs
follow_requests high [] end f = All-nil (λ (c : Reservation). 0 < c.requested)
follow_requests high (c ∷ cs) end f = search (rules, All-cons, follow_requests (low c) cs end f.2)
