-- The front of the pool in portions, one after the other: what was used of them is taken, and what
-- is left of them can be given again.
use Rattle.std.specs.Prelude.{ℕ, ◌+◌, ◌-◌, ◌≤◌, ◌==◌, if◌then◌else◌, List, [], ◌∷◌, ◌++◌, take}
use Rattle.std.specs.Prelude.{drop}
use Rattle.std.specs.List.{All}
use Rattle.ent_alloc.specs.Sequential.{Allocator, top}
use Rattle.ent_alloc.specs.Front.{with_front}
use Rattle.ent_alloc.specs.declared.portion.Portion.{Portion}

-- what was used of the portions that a list begins with: the front of each
abbrev pub used_of : {A : Type 0} → List A → List Portion → List A
used_of pool [] = []
used_of pool (p ∷ portions) = take p.used pool ++ used_of (drop p.size pool) portions

-- what is left of each, and then what comes behind them all
abbrev pub left_of : {A : Type 0} → List A → List Portion → List A
left_of pool [] = pool
left_of pool (p ∷ portions) =
    drop p.used (take p.size pool) ++ left_of (drop p.size pool) portions

-- how many handles they have in all, and how many of these were used
abbrev pub size_of : List Portion → ℕ
size_of [] = 0
size_of (p ∷ portions) = p.size + size_of portions

abbrev pub count_of : List Portion → ℕ
count_of [] = 0
count_of (p ∷ portions) = p.used + count_of portions

-- how many handles there are up to the last one that was used
abbrev pub reach_of : List Portion → ℕ
reach_of [] = 0
reach_of (p ∷ portions) =
    if reach_of portions == 0 then p.used else p.size + reach_of portions

-- for private contracts: what was used, and then what is left before the last one that was used
abbrev pub front_of : {A : Type 0} → List A → List Portion → List A
front_of pool portions =
    used_of pool portions ++ take (reach_of portions - count_of portions) (left_of pool portions)

-- No more was used of a portion than it has.
abbrev pub AreUsed : List Portion → Type 0
AreUsed = All (λ p. p.used ≤ p.size)

-- How many slots have to be made: none if nothing is left before the last one that was used, and
-- otherwise those up to that one, since a fresh one that is left waits among them.
abbrev pub made_for : Allocator → List Portion → ℕ
made_for s portions =
    if count_of portions == reach_of portions then 0 else reach_of portions - top s

-- What was used is taken, in the order of the portions, and the pool is what is left: it keeps its
-- own order.
abbrev pub after_portions : Allocator → List Portion → Allocator
after_portions s portions = record s {
  taken = used_of s.pool portions;
  pool = left_of s.pool portions;
  made = s.made + made_for s portions;
  asked = count_of portions;
}

-- For private contracts: the pool begins with what was used, and then what is left before the last
-- one that was used.
abbrev pub arranged : Allocator → List Portion → Allocator
arranged s portions =
    if count_of portions == reach_of portions then s else with_front s (front_of s.pool portions)
