-- What a table with a place for each number represents. Only the model of `CallerTable`, private
-- contracts and proofs use this.
use Rattle.std.specs.Prelude.{ℕ, ◌+◌, List, [], ◌∷◌, Option, Some, None}
use Rattle.std.specs.List.{sum_by}
use Rattle.std.specs.Ordering.{nat_cmp}
use Rattle.std.specs.FinMap as finite

-- the values, each with the number of its place, where the first place has this number
abbrev pub numbered : {X : Type 0} → ℕ → List (Option X) → List (ℕ × X)
numbered n [] = []
numbered n (None ∷ places) = numbered (n + 1) places
numbered n (Some x ∷ places) = (n, x) ∷ numbered (n + 1) places

-- the value at each place that has one
abbrev pub by_place : {X : Type 0} → List (Option X) → finite.FinMap nat_cmp X
by_place places = finite.from_entries (numbered 0 places)

abbrev pub one_if_some : {X : Type 0} → Option X → ℕ
one_if_some None = 0
one_if_some (Some x) = 1

-- how many places have a value
abbrev pub values_in : {X : Type 0} → List (Option X) → ℕ
values_in places = sum_by one_if_some places
