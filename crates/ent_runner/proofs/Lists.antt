-- Lists of lists, and the numbers of a range.
use Rattle.ent_runner.proofs.Common.{rules, ◌≡◌, ℕ, zero, suc, ◌<◌, List, [], ◌∷◌, length, map}
use Rattle.ent_runner.proofs.Common.{refl, ap, arith, ◌-◌, Some}
use Rattle.ent_runner.proofs.Common.{Bool, ◌∙◌, common_steps, filter, slice_get, All, sum_by}
use Rattle.ent_runner.proofs.Common.{flat_map, range_with_len, All-nil, All-cons, All-head}
use Rattle.ent_runner.proofs.Common.{All-tail, All-append, All-left, All-right, slice_get-get_or}
use Rattle.ent_runner.proofs.Common.{get_or_from_slice_get, slice_get_within, slice_get-map}
use Rattle.ent_runner.proofs.Common.{option_map, get_or-map, length-map, fold-map}
use Rattle.ent_runner.proofs.Common.{get_or-range_with_len, length-range_with_len}

-- what holds of each element at its index holds of all
pub all_from_each : {X : Type 0} (P : X → Type 0) (xs : List X)
    → ((k : ℕ) (x : X) → slice_get xs k ≡ Some x → P x) → All P xs
all_from_each P xs each k d within = search (rules, slice_get-get_or)

pub of_mapped : {X Y : Type 0} (P : Y → Type 0) (f : X → Y) (xs : List X) → All P (map f xs)
    → All (λ x. P (f x)) xs
of_mapped P f xs all k d within = search (rules, get_or-map f xs k d (f d), length-map)

pub each_of_all : {X : Type 0} (P : X → Type 0) (xs : List X) (k : ℕ) (x : X) → All P xs
    → slice_get xs k ≡ Some x → P x
each_of_all P xs k x all at = search (rules, get_or_from_slice_get, slice_get_within)

pub all_flat : {X Y : Type 0} (P : Y → Type 0) (f : X → List Y) (xs : List X)
    → All (λ x. All P (f x)) xs → All P (flat_map f xs)
all_flat P f [] all = All-nil P
all_flat P f (x ∷ xs) all =
    search (
      rules,
      All-append,
      All-head (λ x. All P (f x)) x xs all,
      all_flat P f xs (All-tail (λ x. All P (f x)) x xs all),
    )

pub flat_all : {X Y : Type 0} (P : Y → Type 0) (f : X → List Y) (xs : List X)
    → All P (flat_map f xs) → All (λ x. All P (f x)) xs
flat_all P f [] all = All-nil (λ x. All P (f x))
flat_all P f (x ∷ xs) all =
    search (
      rules,
      All-cons,
      All-left P (f x) (flat_map f xs) all,
      flat_all P f xs (All-right P (f x) (flat_map f xs) all),
    )

pub same_flat : {X Y : Type 0} (f g : X → List Y) (xs : List X) → All (λ x. f x ≡ g x) xs
    → flat_map f xs ≡ flat_map g xs
same_flat f g [] all = refl
same_flat f g (x ∷ xs) all =
    search (
      rules,
      All-head (λ x. f x ≡ g x) x xs all,
      same_flat f g xs (All-tail (λ x. f x ≡ g x) x xs all),
    )

pub map_flat : {X Y Z : Type 0} (g : Y → Z) (f : X → List Y) (xs : List X)
    → map g (flat_map f xs) ≡ flat_map (λ x. map g (f x)) xs
map_flat g f [] = refl
map_flat g f (x ∷ xs) = grind (arith, common_steps, map_flat g f xs)

pub filter_map_is : {X Y : Type 0} (p : Y → Bool) (f : X → Y) (xs : List X)
    → filter p (map f xs) ≡ map f (filter (λ x. p (f x)) xs)
filter_map_is p f [] = refl
filter_map_is p f (x ∷ xs) = search (rules, filter_map_is p f xs)

pub map_map_is : {X Y Z : Type 0} (g : Y → Z) (f : X → Y) (xs : List X)
    → map g (map f xs) ≡ map (λ x. g (f x)) xs
map_map_is g f [] = refl
map_map_is g f (x ∷ xs) = ap (λ ys. g (f x) ∷ ys) (map_map_is g f xs)

pub sum_map : {X Y : Type 0} (g : Y → ℕ) (f : X → Y) (xs : List X)
    → sum_by g (map f xs) ≡ sum_by (λ x. g (f x)) xs
sum_map g f xs = search (rules, fold-map)

-- the element of a mapped list is that of one element
pub mapped_at : {X Y : Type 0} (f : X → Y) (xs : List X) (k : ℕ) (y : Y)
    → slice_get (map f xs) k ≡ Some y → (x : X) × (slice_get xs k ≡ Some x) × (f x ≡ y)
mapped_at f [] k y at = absurd (cc)
mapped_at f (x ∷ xs) zero y at = (x, refl, cc)
mapped_at f (x ∷ xs) (suc k) y at = mapped_at f xs k y at

pub get_mapped : {X Y : Type 0} (f : X → Y) (xs : List X) (k : ℕ) (x : X) → slice_get xs k ≡ Some x
    → slice_get (map f xs) k ≡ Some (f x)
get_mapped f xs k x at = slice_get-map f xs k ∙ ap (option_map f) at

pub at_within : {X : Type 0} (xs : List X) (k : ℕ) → k < length xs
    → (x : X) × (slice_get xs k ≡ Some x)
at_within [] k within = absurd (omega arith)
at_within (x ∷ xs) zero within = (x, refl)
at_within (x ∷ xs) (suc k) within = at_within xs k (omega arith)

pub all_below : (many : ℕ) → All (λ n. n < many) (range_with_len 0 many)
all_below many k d within =
    search (rules, arith, get_or-range_with_len 0 many k d, length-range_with_len 0 many)
