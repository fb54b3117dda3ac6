-- The values in memory, and the lists that they are seen as. And the members of a bundle, one after
-- another.
use Rattle.ent_script.proofs.Common.{rules, ◌≡◌, ℕ, List, [], ◌∷◌, map, Option, Some, None}
use Rattle.ent_script.proofs.Common.{option_map, String, Vec, BTreeMap, Global, string_bytes, Bor}
use Rattle.ent_script.proofs.Common.{refl, sym, ap, bytes_eq, length, arith, slice_get, Data, Items}
use Rattle.ent_script.proofs.Common.{Members, view, items_view, members_view, Value, length-map}
use Rattle.ent_script.proofs.Common.{list_all, list_any, keys_of, only, list_of, pairs_of}
use Rattle.ent_script.proofs.Common.{keys_among, leaf_data, leaves_of, Leaf, Result, Ok, Err}
use Rattle.ent_script.proofs.Common.{Bundle, with_put, Cause}

abbrev pub pair_view : String Global × Value → List ℕ × Data
pair_view m = (string_bytes m.0, view m.1)

abbrev pub leaf_view : Bor (List ℕ) × Leaf → List ℕ × Data
leaf_view m = (m.0.now, leaf_data m.1)

pub list_of-items_view : (vs : List Value) → list_of (items_view vs) ≡ map view vs
list_of-items_view [] = refl
list_of-items_view (v ∷ vs) = search (rules, list_of-items_view vs)

pub pairs_of-members_view : (ms : List (String Global × Value))
    → pairs_of (members_view ms) ≡ map pair_view ms
pairs_of-members_view [] = refl
pairs_of-members_view (m ∷ ms) = search (rules, pairs_of-members_view ms)

pub pairs_of-leaves_of : (ms : List (Bor (List ℕ) × Leaf))
    → pairs_of (leaves_of ms) ≡ map leaf_view ms
pairs_of-leaves_of [] = refl
pairs_of-leaves_of (m ∷ ms) = search (rules, pairs_of-leaves_of ms)

pub members_seen : (r : Option (Bor (BTreeMap (String Global) Value))) (o : Option Members)
    → option_map (λ m. members_view m.now.entries) r ≡ o
    → option_map (λ m. map pair_view m.now.entries) r ≡ option_map pairs_of o
members_seen it o e = search (rules, pairs_of-members_view)

pub elements_seen : (r : Option (Bor (Vec Value Global))) (o : Option Items)
    → option_map (λ v. items_view v.now.items) r ≡ o
    → option_map (λ v. map view v.now.items) r ≡ option_map list_of o
elements_seen None o e = ap (option_map list_of) e
elements_seen (Some v) o e = search (rules, list_of-items_view)

pub length_of_views : (vs : List Value) → length (map view vs) ≡ length vs
length_of_views vs = length-map vs view

pub any_lent : (key : List ℕ) (allowed : List (Bor (List ℕ)))
    → list_any (λ name. bytes_eq key name.now) allowed
    ≡ list_any (λ name. bytes_eq key name) (map (λ name. name.now) allowed)
any_lent key [] = refl
any_lent key (a ∷ allowed) = rw (any_lent key allowed)

-- the keys as they lie in memory
pub keys_lent : (ms : List (String Global × Value)) (allowed : List (Bor (List ℕ)))
    → list_all (λ key. list_any (λ name. bytes_eq (string_bytes key) name.now) allowed) (keys_of ms)
    ≡ keys_among (map (λ name. name.now) allowed) (map pair_view ms)
keys_lent [] allowed = refl
keys_lent (m ∷ ms) allowed =
    search (rules, any_lent (string_bytes m.0) allowed, keys_lent ms allowed)

-- the only member
pub only_member : (ms : List (Bor (List ℕ) × Leaf)) (k : Bor (List ℕ)) (leaf : Leaf) → length ms ≡ 1
    → slice_get ms 0 ≡ Some (k, leaf)
    → Some (k.now, leaf_data leaf) ≡ only (pairs_of (leaves_of ms))
only_member (m ∷ []) k leaf one e = sym (ap (option_map leaf_view) e)
only_member _ k leaf one e = absurd (omega (arith, one))

pub not_only : (ms : List (Bor (List ℕ) × Leaf)) → (length ms ≡ 1 → ⊥)
    → only (pairs_of (leaves_of ms)) ≡ None
not_only [] other = refl
not_only (m ∷ []) other = absurd (other refl)
not_only (m ∷ n ∷ ms) other = refl

-- the bundle so far, with what is read after it
abbrev pub onto : Bundle → Result Bundle Cause → Result Bundle Cause
onto bundle (Ok items) = Ok (with_put bundle items)
onto bundle (Err c) = Err c
