-- Names and their numbers.
use Rattle.ent_script.proofs.Common.{length-map, map-append, rules, ◌≡◌, ℕ, ◌<◌, Bool, false, List}
use Rattle.ent_script.proofs.Common.{[], ◌∷◌, ◌++◌, length, Option, Some, None, is_some, IfSome}
use Rattle.ent_script.proofs.Common.{cond, refl, sym, ◌∙◌, arith, bytes_eq, true≢false, Bor}
use Rattle.ent_script.proofs.Common.{BTreeMap, common_steps, get_by, Updates, slice_cmp}
use Rattle.ent_script.proofs.Common.{btree_map_updates_str, bytes_eq-Decides, Data, as_name}
use Rattle.ent_script.proofs.Common.{number_among, with_name, new_name, HaveNumbers}
use Rattle.ent_script.proofs.Common.{◌-◌, length-append, map}
use Rattle.std.specs.Ordering.{nat_cmp}

-- a name's number is less than how many there are
pub number_within : (name : List ℕ) (names : List (List ℕ))
    → IfSome (number_among name names) (λ p. p < length names)
number_within name [] = tt
number_within name (first ∷ others) = grind (arith, common_steps, number_within name others)

-- the first of two
abbrev pub first_of : Option ℕ → Option ℕ → Option ℕ
first_of None other = other
first_of (Some n) other = Some n

number_among-append : (text name : List ℕ) (names : List (List ℕ))
    → number_among text (names ++ name ∷ [])
    ≡ first_of (number_among text names) (cond (bytes_eq name text) (Some (length names)) None)
number_among-append text name [] = refl
number_among-append text name (first ∷ others) =
    grind (arith, common_steps, number_among-append text name others)

pub at_end : (text name : List ℕ) (names : List (List ℕ)) → number_among name names ≡ None
    → cond (bytes_eq name text) (Some (length names)) (number_among text names)
    ≡ number_among text (names ++ name ∷ [])
at_end text name names none = search (rules, number_among-append, bytes_eq-Decides)

-- a new name goes last
pub numbers_added : (names : List (Bor (List ℕ))) (numbers after : BTreeMap (Bor (List ℕ)) ℕ)
    (name : Bor (List ℕ)) (n : ℕ) → n ≡ length names → HaveNumbers names numbers
    → get_by (λ k. slice_cmp nat_cmp name.now k.now) numbers ≡ None
    → Updates (λ x y. slice_cmp nat_cmp x.now y.now) numbers after name (Some n)
    → HaveNumbers (names ++ name ∷ []) after
numbers_added names numbers after name n count old none updates = λ text. rw (
  btree_map_updates_str name.now numbers after (Some n) updates text,
  old text,
  count,
  ← length-map names (λ n. n.now),
  map-append,
) (at_end text name.now _ (sym (old name.now) ∙ none))

-- and is found there
pub last_added : (names : List (Bor (List ℕ))) (name : Bor (List ℕ))
    → number_among name.now (map (λ n. n.now) names) ≡ None
    → (0 < length (names ++ name ∷ []))
    × (number_among name.now (map (λ n. n.now) (names ++ name ∷ []))
    ≡ Some (length (names ++ name ∷ []) - 1))
last_added names name none = search (
  rules,
  arith,
  map-append,
  length-map,
  length-append,
  number_among-append name.now name.now (map (λ n. n.now) names),
  bytes_eq-Decides,
  none,
)

pub none_of : (found : Option ℕ) (b : Bool) → b ≡ is_some found → b ≡ false → found ≡ None
none_of it b e h = search (rules, true≢false)

-- a new name is none of the others
pub new_name_is : (names : List (List ℕ)) (d : Data) (t : List ℕ) → new_name names d ≡ Some t
    → (as_name d ≡ Some t) × (number_among t names ≡ None)
new_name_is names d t h = search rules

pub with_new : (names : List (List ℕ)) (t : List ℕ) → number_among t names ≡ None
    → with_name names t ≡ names ++ t ∷ []
with_new names t h = search rules
