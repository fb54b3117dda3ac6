-- Portions of a list: where what was used of them ends, and what is left.
use Rattle.ent_alloc.proofs.Common.{rules, ◌≡◌, ◌⊎◌, inl, inr, refl, sym, ap, ◌∙◌, subst, ℕ, ◌+◌}
use Rattle.ent_alloc.proofs.Common.{◌-◌, ◌<◌, ◌≤◌, List, [], ◌∷◌, ◌++◌, length, take, drop, get_or}
use Rattle.ent_alloc.proofs.Common.{map, arith, IsPermutation, common_steps, take-add}
use Rattle.ent_alloc.proofs.Common.{take-append-add, drop-append-add, take-append-drop}
use Rattle.ent_alloc.proofs.Common.{length-append, length-drop, drop-drop, length-take-le}
use Rattle.ent_alloc.proofs.Common.{append-nil, drop-append-le, drop_more, take_more, get_or-drop}
use Rattle.ent_alloc.proofs.Common.{drop-take, get_or_default, All-tail, get_or_from_slice_get}
use Rattle.ent_alloc.proofs.Common.{append_assoc, take-map, drop-map, take-take, take_all, min}
use Rattle.ent_alloc.proofs.Common.{min-eq_left, min-eq_right, cases_lt, IsPermutation-refl}
use Rattle.ent_alloc.proofs.Common.{IsPermutation-append_left, IsPermutation-append_right}
use Rattle.ent_alloc.proofs.Common.{IsPermutation-append_comm, IsPermutation-trans, Portion}
use Rattle.ent_alloc.proofs.Common.{used_of, left_of, size_of, count_of, reach_of, AreUsed}
use Rattle.ent_alloc.proofs.Common.{front_of, slice_get, Some}
pub use Rattle.std.proofs.lemmas.List.{map-append}
use Rattle.ent_alloc.proofs.ListLaws.{take-append}

pub first_used : (p : Portion) (ps : List Portion) → AreUsed (p ∷ ps) → p.used ≤ p.size
first_used p ps fits = fits 0 p (omega arith)

pub others_used : (p : Portion) (ps : List Portion) → AreUsed (p ∷ ps) → AreUsed ps
others_used p ps fits = All-tail (λ (p : Portion). p.used ≤ p.size) p ps fits

-- ---- where what was used ends

pub reach-none : (p : Portion) (ps : List Portion) → reach_of ps ≡ 0 → reach_of (p ∷ ps) ≡ p.used
reach-none p ps none = grind (arith, common_steps)

pub reach-some : (p : Portion) (ps : List Portion) → 0 < reach_of ps
    → reach_of (p ∷ ps) ≡ p.size + reach_of ps
reach-some p ps some = grind (arith, common_steps)

none_or_some : (n : ℕ) → (n ≡ 0) ⊎ (0 < n)
none_or_some n = grind arith

pub count_within : (ps : List Portion) → AreUsed ps → count_of ps ≤ reach_of ps
count_within [] fits = omega arith
count_within (p ∷ ps) fits =
    grind (arith, common_steps, first_used p ps fits, count_within ps (others_used p ps fits))

pub reach_within : (ps : List Portion) → AreUsed ps → reach_of ps ≤ size_of ps
reach_within [] fits = omega arith
reach_within (p ∷ ps) fits =
    grind (arith, common_steps, first_used p ps fits, reach_within ps (others_used p ps fits))

-- ---- what was used, and what is left

pub take_of_take : {X : Type 0} (n m : ℕ) (xs : List X) → n ≤ m → take n (take m xs) ≡ take n xs
take_of_take n m xs le = take-take n m xs le

module _ {A : Type 0} where
  pub used_none : (pool : List A) (ps : List Portion) → count_of ps ≡ 0 → used_of pool ps ≡ []
  used_none pool [] none = refl
  used_none pool (p ∷ ps) none =
      grind (arith, common_steps, used_none (drop p.size pool) ps (omega arith))

  pub left_none : (pool : List A) (ps : List Portion) → count_of ps ≡ 0 → left_of pool ps ≡ pool
  left_none pool [] none = refl
  left_none pool (p ∷ ps) none = grind
      (arith, common_steps, take-append-drop, left_none (drop p.size pool) ps (omega arith))

  pub length-used : (pool : List A) (ps : List Portion) → AreUsed ps → size_of ps ≤ length pool
      → length (used_of pool ps) ≡ count_of ps
  length-used pool [] fits within = refl
  length-used pool (p ∷ ps) fits within = search (
    rules,
    arith,
    length-append,
    length-take-le,
    length-drop,
    first_used p ps fits,
    length-used (drop p.size pool) ps (others_used p ps fits),
  )

  -- a portion's rest, and what comes behind it
  module _ (p : Portion) (pool : List A) (fits : p.used ≤ p.size) (within : p.size ≤ length pool)
    where
      abbrev rest : List A
      rest = drop p.used (take p.size pool)

      length-rest : length rest ≡ p.size - p.used
      length-rest = length-drop p.used (take p.size pool)
          ∙ ap (λ n. n - p.used) (length-take-le p.size pool within)

      rest_and_behind : rest ++ drop p.size pool ≡ drop p.used pool
      rest_and_behind =
          sym
          (drop-append-le p.used (take p.size pool) (drop p.size pool)
          (omega (arith, length-take-le p.size pool within)))
          ∙ ap (drop p.used) (take-append-drop p.size pool)

      front_and_rest : take p.used pool ++ rest ≡ take p.size pool
      front_and_rest = ap (◌++ rest) (sym (take-take p.used p.size pool fits))
          ∙ take-append-drop p.used (take p.size pool)

      rest_is : rest ≡ take (p.size - p.used) (drop p.used pool)
      rest_is =
          let whole : p.used + (p.size - p.used) ≡ p.size = omega arith in
          ap (λ n. drop p.used (take n pool)) (sym whole) ∙ drop-take p.used (p.size - p.used) pool

      -- as many as there are of a rest, and then of others
      pub take_left : (more n : ℕ) (others : List A) → n ≡ min (p.size - p.used) more
          → take more (rest ++ others) ≡ take n (drop p.used pool) ++ take (more - n) others
      take_left more n others least = search (
        rules,
        arith,
        length-rest,
        take-append more rest others,
        cases_lt more (p.size - p.used),
        rest_is,
        take-take,
        take_all,
        min-eq_left,
        min-eq_right,
      )

  -- behind the last one that was used nothing has moved
  pub behind_reach : (pool : List A) (ps : List Portion) → AreUsed ps → size_of ps ≤ length pool
      → drop (reach_of ps - count_of ps) (left_of pool ps) ≡ drop (reach_of ps) pool
  behind_reach pool [] fits within = refl
  behind_reach pool (p ∷ ps) fits within =
      let here = first_used p ps fits in
      let few = count_within ps (others_used p ps fits) in
      search (
        rules,
        arith,
        none_or_some (reach_of ps),
        reach-none p ps,
        reach-some p ps,
        left_none,
        rest_and_behind p pool here,
        length-rest p pool here,
        length-drop p.size pool,
        drop-append-add (rest p pool here (omega arith)) (left_of (drop p.size pool) ps)
            (reach_of ps - count_of ps),
        behind_reach (drop p.size pool) ps (others_used p ps fits),
        drop-drop,
      )

  -- the middle ones of four lists in the other order
  swap_middle : (u r us rs : List A)
      → IsPermutation ((u ++ r) ++ (us ++ rs)) ((u ++ us) ++ (r ++ rs))
  swap_middle u r us rs =
      let swapped : IsPermutation (u ++ ((r ++ us) ++ rs)) (u ++ ((us ++ r) ++ rs)) =
      IsPermutation-append_right u
      ((r ++ us) ++ rs) ((us ++ r) ++ rs) (IsPermutation-append_left rs (r ++ us) (us ++ r)
      (IsPermutation-append_comm r us)) in
      simp append_assoc (simp append_assoc at swapped)

  -- they are what the list begins with, in another order
  pub front_same : (pool : List A) (ps : List Portion) → AreUsed ps → size_of ps ≤ length pool
      → IsPermutation (take (reach_of ps) pool) (front_of pool ps)
  front_same pool [] fits within = IsPermutation-refl []
  front_same pool (p ∷ ps) fits within =
      let here = first_used p ps fits in
      let few = count_within ps (others_used p ps fits) in
      let others =
      front_same (drop p.size pool) ps (others_used p ps fits)
      (omega (arith, length-drop p.size pool)) in
      elim (none_or_some (reach_of ps)) [
        | inl none ↦ search (
          rules,
          arith,
          reach-none p ps none,
          used_none (drop p.size pool) ps,
          append-nil,
          IsPermutation-refl,
        )
        | inr some ↦
            let r = rest p pool here (omega arith) in
            let rs = take (reach_of ps - count_of ps) (left_of (drop p.size pool) ps) in
            let first = IsPermutation-append_right (take p.used pool ++ r) _ _ others in
            let swapped = IsPermutation-trans _ _ _ first (swap_middle (take p.used pool) r _ rs) in
            search (
              rules,
              arith,
              reach-some p ps some,
              take-add p.size (reach_of ps) pool,
              length-rest p pool here,
              take-append-add r (left_of (drop p.size pool) ps) (reach_of ps - count_of ps),
              front_and_rest p pool here,
              swapped,
            )
      ]

  -- if nothing is left before the last one that was used, they are what the list begins with
  pub used_is_front : (pool : List A) (ps : List Portion) → AreUsed ps → count_of ps ≡ reach_of ps
      → size_of ps ≤ length pool → used_of pool ps ≡ take (count_of ps) pool
  used_is_front pool [] fits all within = refl
  used_is_front pool (p ∷ ps) fits all within = grind (
    arith,
    common_steps,
    first_used p ps fits,
    count_within ps (others_used p ps fits),
    length-drop p.size pool,
    used_is_front (drop p.size pool) ps (others_used p ps fits),
    used_none,
    append-nil,
    take-add,
  )

  pub left_is_behind : (pool : List A) (ps : List Portion) → AreUsed ps → count_of ps ≡ reach_of ps
      → size_of ps ≤ length pool → left_of pool ps ≡ drop (count_of ps) pool
  left_is_behind pool ps fits all within = search (rules, arith, all, behind_reach pool ps)

-- ---- one portion more

pub count_size : (ps : List Portion) → AreUsed ps → count_of ps ≤ size_of ps
count_size ps fits = omega (arith, count_within ps fits, reach_within ps fits)

-- what stands past the last one
abbrev pub no_portion : Portion
no_portion = record { size = 0; used = 0 }

pub portion_is : (ps : List Portion) (k : ℕ) → k < length ps
    → get_or ps k no_portion ≡ get_or ps k (get_or ps k no_portion)
portion_is ps k lt = search (rules, get_or_default)

module _ (ps : List Portion) (k : ℕ) (p : Portion) (lt : k < length ps) (is : p ≡ get_or ps k p)
  where
    pub portion_more : drop k ps ≡ p ∷ drop (k + 1) ps
    portion_more = drop_more ps k p lt ∙ ap (λ (x : Portion). x ∷ drop (k + 1) ps) (sym is)

    pub size_more : size_of (drop k ps) ≡ p.size + size_of (drop (k + 1) ps)
    size_more = ap size_of portion_more

    pub count_more : count_of (drop k ps) ≡ p.used + count_of (drop (k + 1) ps)
    count_more = ap count_of portion_more

    pub used_at : AreUsed ps → p.used ≤ p.size
    used_at fits = subst (λ (x : Portion). x.used ≤ x.size) (sym is) (fits k p lt)

    module _ {A : Type 0} (pool : List A) (before : ℕ) where
      pub left_more : (more n : ℕ) → n ≡ min (p.size - p.used) more → p.used ≤ p.size
          → before + p.size ≤ length pool
          → take more (left_of (drop before pool) (drop k ps))
          ≡ take n (drop (before + p.used) pool)
          ++ take (more - n) (left_of (drop (before + p.size) pool) (drop (k + 1) ps))
      left_more more n least fits within =
          rw (portion_more, ← drop-drop p.size before pool, ← drop-drop p.used before pool)
          (take_left p (drop before pool) fits (omega (arith, length-drop before pool)) more n _
          least)

-- one more of what begins at a position
pub list_more : {X : Type 0} (pool : List X) (from more : ℕ) (x : X)
    → slice_get pool (from + more) ≡ Some x → from + more < length pool
    → take (more + 1) (drop from pool) ≡ take more (drop from pool) ++ x ∷ []
list_more pool from more x at below =
    search (
      rules,
      take_more (drop from pool) more x,
      length-drop,
      get_or-drop,
      get_or_from_slice_get pool (from + more) x x,
    )

-- ---- a list of which each element is mapped

module _ {A B : Type 0} (f : A → B) where
  used-map : (pool : List A) (ps : List Portion) → map f (used_of pool ps) ≡ used_of (map f pool) ps
  used-map pool [] = refl
  used-map pool (p ∷ ps) =
      search (rules, map-append, take-map, drop-map, used-map (drop p.size pool) ps)

  left-map : (pool : List A) (ps : List Portion) → map f (left_of pool ps) ≡ left_of (map f pool) ps
  left-map pool [] = refl
  left-map pool (p ∷ ps) =
      search (rules, map-append, take-map, drop-map, left-map (drop p.size pool) ps)

  pub front-map : (pool : List A) (ps : List Portion)
      → map f (front_of pool ps) ≡ front_of (map f pool) ps
  front-map pool ps = rw (map-append, used-map, ← take-map, left-map)
