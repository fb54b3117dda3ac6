-- Births that rise from each to the next are in order.
use Rattle.std.proofs.Common.{⊎_elim, is_le}
use Rattle.std.specs.List.Sorted.{IsSorted}
use Rattle.ent_storage.proofs.Common.{rules, ◌≡◌, ◌∙◌, ℕ, ◌<◌, ◌+◌, ◌-◌, false, refl, sym, ap, arith}
use Rattle.ent_storage.proofs.Common.{List, [], ◌∷◌, length, get_or, map, get_or_default, get_or-map}
use Rattle.ent_storage.proofs.Common.{length-map, cases_lt, Ordering, is_lt, ordering_then, Birth}
use Rattle.ent_storage.proofs.Common.{birth_cmp, Handle, handle_cmp, Resident, pair_cmp, IsInOrder}
use Rattle.ent_storage.proofs.Common.{packed_birth, ◌^◌}

-- one that isn't at most the other is not less, whatever comes second
not_less : (r s : Ordering) → is_le r ≡ false → is_lt (ordering_then r s) ≡ false
not_less r s above = search rules

-- A birth whose number is greater isn't at most the other one.
pub above_packed : (a b : Birth) → a.system < 2 ^ 32 → a.ordinal < 2 ^ 32
    → packed_birth b < packed_birth a → is_le (birth_cmp a b) ≡ false
above_packed a b system ordinal more = search (rules, arith)

-- the first ones of that many are in order
abbrev pub AreInOrder : List (Birth × Handle) → ℕ → Type 0
AreInOrder pairs many = (k : ℕ) (d : Birth × Handle) → k + 1 < many
    → is_lt (pair_cmp (get_or pairs (k + 1) d) (get_or pairs k d)) ≡ false

pub one_more : (pairs : List (Birth × Handle)) (i : ℕ) (a b : Birth × Handle) → 0 < i
    → i < length pairs → AreInOrder pairs i
    → is_le (birth_cmp (get_or pairs i a).0 (get_or pairs (i - 1) b).0) ≡ false
    → AreInOrder pairs (i + 1)
one_more pairs i a b some inside before above k d within =
    ⊎_elim (λ earlier. before k d earlier)
    (λ last.
    let here : get_or pairs (k + 1) d ≡ get_or pairs i a =
    ap (λ n. get_or pairs n d) (omega arith) ∙ get_or_default pairs i d a inside in
    let there : get_or pairs k d ≡ get_or pairs (i - 1) b =
    ap (λ n. get_or pairs n d) (omega arith) ∙ get_or_default pairs (i - 1) d b (omega arith) in
    rw (here, there) (not_less _ (handle_cmp (get_or pairs i a).1 (get_or pairs (i - 1) b).1) above))
    (cases_lt (k + 1) i)

abbrev pair_of : Resident → Birth × Handle
pair_of resident = (resident.birth, resident.handle)

pub one_more_resident : (residents : List Resident) (i : ℕ) (r s : Resident) → 0 < i
    → i < length residents
    → AreInOrder (map {A = Resident} {B = Birth × Handle}
    (λ resident. (resident.birth, resident.handle)) residents) i
    → is_le (birth_cmp (get_or residents i r).birth (get_or residents (i - 1) s).birth) ≡ false
    → AreInOrder (map {A = Resident} {B = Birth × Handle}
    (λ resident. (resident.birth, resident.handle)) residents) (i + 1)
one_more_resident residents i r s some inside before above =
    let here : get_or (map pair_of residents) i (pair_of r) ≡ pair_of (get_or residents i r) =
    get_or-map pair_of residents i r (pair_of r) inside in
    let there : get_or (map pair_of residents) (i - 1) (pair_of s)
    ≡ pair_of (get_or residents (i - 1) s) =
    get_or-map pair_of residents (i - 1) s (pair_of s) (omega arith) in
    let long : length (map pair_of residents) ≡ length residents = search (rules, length-map) in
    one_more (map pair_of residents) i (pair_of r) (pair_of s) some (omega (arith, long)) before
    (rw (here, there) above)

-- residents in order have the handles that they are asked for
pub listed : (residents : List Resident) (handles : List Handle)
    → IsSorted pair_cmp (map {A = Resident} {B = Birth × Handle}
    (λ resident. (resident.birth, resident.handle)) residents)
    → handles ≡ map (λ (resident : Resident). resident.handle) residents
    → IsInOrder (map {A = Resident} {B = Birth × Handle}
    (λ resident. (resident.birth, resident.handle)) residents) handles
listed residents handles sorted are = record {
  sorted = map pair_of residents;
  permutation = record { moves = []; below = tt; is = refl };
  in_order = sorted;
  are = are ∙ sym (seconds residents);
}
  where
    seconds : (residents : List Resident)
        → map (λ (pair : Birth × Handle). pair.1) (map pair_of residents)
        ≡ map (λ (resident : Resident). resident.handle) residents
    seconds [] = refl
    seconds (resident ∷ residents) = ap (λ more. resident.handle ∷ more) (seconds residents)
