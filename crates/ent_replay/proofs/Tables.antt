-- Maps of callers: what a tree's entries stand for, the values of a map under a function, and sums
-- over the callers. Tables with a place for each number, and how many values they have.
use Rattle.ent_replay.proofs.Common.{rules, ◌≡◌, ◌≢◌, refl, sym, ap, ◌∙◌, ℕ, true, false, cond}
use Rattle.ent_replay.proofs.Common.{List, [], ◌∷◌, map, Some, None, arith, eq-eqb, ne_eqb}
use Rattle.ent_replay.proofs.Common.{cases_eq, same_Some, common_steps, option_map, IsSome, nat_cmp}
use Rattle.ent_replay.proofs.Common.{eq_by_cmp, nat_cmp_total, eq_by_cmp_equiv, unsigned_tied}
use Rattle.ent_replay.proofs.Common.{nat_tests, lookup, set_value, lookup-set_value, BTreeMap}
use Rattle.ent_replay.proofs.Common.{is_at, FinMap, find, same_map, nat_cmp-IsAntisymmetric}
use Rattle.ent_replay.proofs.Common.{get-from_entries, get-entries, get-insert, get-remove}
use Rattle.ent_replay.proofs.Common.{get-empty, map_values, zero, suc, ◌+◌, ◌*◌, ◌<◌, ◌≤◌, cases_lt}
use Rattle.ent_replay.proofs.Common.{sum_below, get_or-set_at, ◌++◌, length, get_or, set, replicate}
use Rattle.ent_replay.proofs.Common.{Option, get_or-eq_default, get_or-set_other, sum_by-cons}
use Rattle.ent_replay.proofs.Common.{by_place, one_if_some, values_in}
use Rattle.std.specs.BTreeMap as tree
use Rattle.std.specs.FinMap as finite
use Rattle.ent_replay.specs.Table.{numbered}

-- ---- keys

-- a test that fails does not hold
pub no_test : false ≡ true → ⊥
no_test is = cc

pub itself : (k : ℕ) → eq_by_cmp nat_cmp k k ≡ true
itself k = unsigned_tied k k ∙ eq-eqb k k refl

pub apart : (q k : ℕ) → q ≢ k → eq_by_cmp nat_cmp q k ≡ false
apart q k other = unsigned_tied q k ∙ ne_eqb q k other

-- ---- trees

-- two ways to look through a list of entries
find-lookup : {X : Type 0} (q : ℕ) (es : List (ℕ × X))
    → find nat_cmp q es ≡ lookup (is_at (nat_cmp q)) es
find-lookup q [] = refl
find-lookup q (e ∷ es) = cc (find-lookup q es)

-- a tree's entries as a map
abbrev pub of_tree : {X : Type 0} → BTreeMap ℕ X → FinMap nat_cmp X
of_tree m = finite.from_entries m.entries

-- it has what the tree has
pub get-of_tree : {X : Type 0} (m : BTreeMap ℕ X) (q : ℕ)
    → finite.get (of_tree m) q ≡ tree.get nat_cmp m q
get-of_tree m q = get-from_entries nat_cmp_total m.entries q ∙ find-lookup q m.entries

pub maps_alike : {X : Type 0} (m n : FinMap nat_cmp X) → ((q : ℕ) → finite.get m q ≡ finite.get n q)
    → m ≡ n
maps_alike m n alike = same_map nat_cmp_total nat_cmp-IsAntisymmetric m n alike

-- to write over the value of a key that is there
pub from_entries-set : {X : Type 0} (es : List (ℕ × X)) (k : ℕ) (w : X)
    → IsSome (lookup (is_at (nat_cmp k)) es)
    → finite.from_entries {R = nat_cmp} (set_value (is_at (nat_cmp k)) es w)
    ≡ finite.insert (finite.from_entries es) k w
from_entries-set es k w there =
    maps_alike _ _
    (λ q. get-from_entries nat_cmp_total _ q ∙ find-lookup q _
    ∙ lookup-set_value {eq = eq_by_cmp nat_cmp} (eq_by_cmp_equiv nat_cmp_total) _
    (λ x y tied. ap (λ j. eq_by_cmp nat_cmp j y) (search (rules, nat_tests))) q w es there
    ∙ (λ i. cond ((eq_by_cmp_equiv nat_cmp_total).symm k q i) (Some w)
    (sym (get-from_entries nat_cmp_total es q ∙ find-lookup q es) i))
    ∙ sym (get-insert nat_cmp_total (finite.from_entries es) k w q))

-- ---- the map at one caller, and at the others

pub get-inserted : {X : Type 0} (m : FinMap nat_cmp X) (k : ℕ) (v : X)
    → finite.get (finite.insert m k v) k ≡ Some v
get-inserted m k v = grind (arith, common_steps, get-insert nat_cmp_total m k v k, itself k)

pub get-insert_other : {X : Type 0} (m : FinMap nat_cmp X) (k : ℕ) (v : X) (q : ℕ) → q ≢ k
    → finite.get (finite.insert m k v) q ≡ finite.get m q
get-insert_other m k v q other = cc (get-insert nat_cmp_total m k v q, apart q k other)

pub get-removed : {X : Type 0} (m : FinMap nat_cmp X) (k : ℕ)
    → finite.get (finite.remove m k) k ≡ None
get-removed m k = cc (get-remove nat_cmp_total m k k, itself k)

pub get-remove_other : {X : Type 0} (m : FinMap nat_cmp X) (k : ℕ) (q : ℕ) → q ≢ k
    → finite.get (finite.remove m k) q ≡ finite.get m q
get-remove_other m k q other = cc (get-remove nat_cmp_total m k q, apart q k other)

-- an empty map has nothing
pub nothing_in : {X : Type 0} (m : FinMap nat_cmp X) → m ≡ finite.empty → (q : ℕ) (x : X)
    → finite.get m q ≡ Some x → ⊥
nothing_in m none q x at = search (rules, get-empty)

-- what holds of all but the value at k, and of that one
module _ {X : Type 0} (P : ℕ → X → Type 0) (m : FinMap nat_cmp X) (k : ℕ)
    (before : (q : ℕ) (x : X) → q ≢ k → finite.get m q ≡ Some x → P q x) where
  pub on_inserted : (v : X) → P k v → (q : ℕ) (x : X) → finite.get (finite.insert m k v) q ≡ Some x
      → P q x
  on_inserted v here q x at = search (rules, cases_eq, same_Some, get-inserted, get-insert_other)

  pub on_removed : (q : ℕ) (x : X) → finite.get (finite.remove m k) q ≡ Some x → P q x
  on_removed q x at = search (rules, cases_eq, get-removed, get-remove_other)

-- ---- the values under a function

find-values : {X Y : Type 0} (f : X → Y) (q : ℕ) (es : List (ℕ × X))
    → find nat_cmp q (map (λ e. (e.0, f e.1)) es) ≡ option_map f (find nat_cmp q es)
find-values f q [] = refl
find-values f q (e ∷ es) = search (rules, find-values f q es)

pub get-map_values : {X Y : Type 0} (f : X → Y) (m : FinMap nat_cmp X) (q : ℕ)
    → finite.get (map_values f m) q ≡ option_map f (finite.get m q)
get-map_values f m q = search (rules, get-from_entries, nat_cmp_total, find-values, get-entries)

pub map_values-insert : {X Y : Type 0} (f : X → Y) (m : FinMap nat_cmp X) (k : ℕ) (v : X)
    → map_values f (finite.insert m k v) ≡ finite.insert (map_values f m) k (f v)
map_values-insert f m k v = search (rules, maps_alike, get-map_values, get-insert)

pub map_values-empty : {X Y : Type 0} (f : X → Y) → map_values f finite.empty ≡ finite.empty
map_values-empty f = search (rules, maps_alike, get-map_values, get-empty)

-- ---- emptiness

pub from_entries-empty : {X : Type 0} (es : List (ℕ × X))
    → finite.from_entries {R = nat_cmp} es ≡ finite.empty → es ≡ []
from_entries-empty [] is = refl
from_entries-empty (e ∷ es) is =
    absurd (nothing_in _ is e.0 e.1 (get-inserted (finite.from_entries es) e.0 e.1))

pub sum_below-alike : (f g : ℕ → ℕ) (n : ℕ) → ((q : ℕ) → q < n → f q ≡ g q)
    → sum_below f n ≡ sum_below g n
unfolding sum_below
sum_below-alike f g zero alike = refl
sum_below-alike f g (suc n) alike = omega
    (arith, sum_below-alike f g n (λ q lt. alike q (omega arith)), alike n (omega arith))

-- where the two differ at c alone
pub sum_below-changed : (f g : ℕ → ℕ) (c n : ℕ) → c < n → ((q : ℕ) → q ≢ c → f q ≡ g q)
    → sum_below f n + g c ≡ sum_below g n + f c
unfolding sum_below
sum_below-changed f g c zero lt alike = absurd (omega arith)
sum_below-changed f g c (suc n) lt alike = grind
    (arith, cases_lt c n, sum_below-changed f g c n, sum_below-alike f g n, alike n, ap f, ap g)

pub sum_below-bound : (f : ℕ → ℕ) (b n : ℕ) → ((q : ℕ) → f q ≤ b) → sum_below f n ≤ n * b
unfolding sum_below
sum_below-bound f b zero bound = omega arith
sum_below-bound f b (suc n) bound = search (rules, sum_below-bound f b n bound)

pub sum_below-part : (f : ℕ → ℕ) (c n : ℕ) → c < n → f c ≤ sum_below f n
unfolding sum_below
sum_below-part f c zero lt = absurd (omega arith)
sum_below-part f c (suc n) lt = grind (arith, cases_lt c n, sum_below-part f c n, ap f)

pub sum_below-none : (f : ℕ → ℕ) (n : ℕ) → ((q : ℕ) → f q ≡ 0) → sum_below f n ≡ 0
sum_below-none f n none = omega (arith, sum_below-bound f 0 n (λ q. omega (arith, none q)))

-- ---- tables with a place for each number: what the map of their values has

find_before : {X : Type 0} (n : ℕ) (places : List (Option X)) (q : ℕ) → q < n
    → find nat_cmp q (numbered n places) ≡ None
find_before n [] q lt = refl
find_before n (it ∷ places) q lt = search
    (rules, apart q n (omega (arith, lt)), find_before (n + 1) places q (omega (arith, lt)))

find_numbered : {X : Type 0} (n : ℕ) (places : List (Option X)) (q k : ℕ) → k ≡ n + q
    → find nat_cmp k (numbered n places) ≡ get_or places q None
find_numbered n [] q k is = refl
find_numbered n (it ∷ places) zero k is =
    search (rules, itself, find_before (n + 1) places k (omega (arith, is)))
find_numbered n (it ∷ places) (suc q) k is = search
    (rules, apart k n (omega (arith, is)), find_numbered (n + 1) places q k (omega (arith, is)))

pub get_by_place : {X : Type 0} (places : List (Option X)) (q : ℕ)
    → finite.get (by_place places) q ≡ get_or places q None
get_by_place places q =
    get-from_entries nat_cmp_total (numbered 0 places) q ∙ find_numbered 0 places q q (omega arith)

pub get_past : {X : Type 0} (places : List (Option X)) (q : ℕ) → length places ≤ q
    → finite.get (by_place places) q ≡ None
get_past places q past = simp (get_by_place, get_or-eq_default)

-- ---- one place is written

pub by_place-set : {X : Type 0} (places : List (Option X)) (k : ℕ) (v : X) → k < length places
    → by_place (set places k (Some v)) ≡ finite.insert (by_place places) k v
by_place-set places k v lt =
    search (
      rules,
      maps_alike,
      get_by_place,
      cases_eq,
      get_or-set_at,
      get-inserted,
      get_or-set_other,
      get-insert_other,
    )

pub by_place-emptied : {X : Type 0} (places : List (Option X)) (k : ℕ) → k < length places
    → by_place (set places k None) ≡ finite.remove (by_place places) k
by_place-emptied places k lt =
    search (
      rules,
      maps_alike,
      get_by_place,
      cases_eq,
      get_or-set_at,
      get-removed,
      get_or-set_other,
      get-remove_other,
    )

pub by_place-past : {X : Type 0} (places : List (Option X)) (k : ℕ) → length places ≤ k
    → by_place places ≡ finite.remove (by_place places) k
by_place-past places k past = search
    (rules, maps_alike, get_by_place, get_or-eq_default, cases_eq, get-removed, get-remove_other)

-- ---- places without values are added

pub get_or-padded : {X : Type 0} (places : List (Option X)) (n q : ℕ)
    → get_or (places ++ replicate n None) q None ≡ get_or places q None
get_or-padded places n q = grind (arith, common_steps)

-- ---- how many there are

values_at_most : {X : Type 0} (places : List (Option X)) → values_in places ≤ length places
values_at_most [] = omega arith
values_at_most (place ∷ places) = grind
    (arith, common_steps, sum_by-cons one_if_some place places, values_at_most places)

-- there is a place without a value
pub values_below : {X : Type 0} (places : List (Option X)) (k : ℕ) → k < length places
    → get_or places k None ≡ None → values_in places < length places
values_below [] k lt none = elim lt [ ]
values_below (it ∷ places) zero lt none = grind (arith, common_steps, values_at_most places)
values_below (it ∷ places) (suc k) lt none =
    grind (
      arith,
      common_steps,
      sum_by-cons one_if_some it places,
      values_below places k (omega (arith, lt)) none,
    )

pub none_in : {X : Type 0} (places : List (Option X)) (q : ℕ) → values_in places ≡ 0
    → get_or places q None ≡ None
none_in [] q is = refl
none_in (it ∷ places) q is =
    grind (arith, common_steps, sum_by-cons one_if_some it places, none_in places)

count_none : {X : Type 0} (places : List (Option X)) → ((q : ℕ) → get_or places q None ≡ None)
    → values_in places ≡ 0
count_none [] each = refl
count_none (it ∷ places) each = search (rules, each zero, count_none places (λ q. each (suc q)))

pub count_from_empty : {X : Type 0} (places : List (Option X)) → by_place places ≡ finite.empty
    → values_in places ≡ 0
count_from_empty places is =
    count_none places (λ q. cc (get_by_place places q, is, get-empty {X = _} nat_cmp q))

in_list : {X : Type 0} (places : List (Option X)) (k : ℕ) → IsSome (get_or places k None)
    → k < length places
in_list [] k is = absurd (search (rules, is))
in_list (place ∷ places) it is = search (rules, arith, in_list places)

-- a caller that has a value has a place
pub in_table : {X : Type 0} (places : List (Option X)) (k : ℕ)
    → IsSome (finite.get (by_place places) k) → k < length places
in_table places k is = in_list places k (rw (← get_by_place places k) is)
