-- What crates above need to know of records: what they were given, one by one and all together.
use Rattle.ent_shared.proofs.Common.{arith, rules, ◌≡◌, ◌≢◌, List, [], ◌∷◌, ◌++◌, refl, sym}
use Rattle.ent_shared.proofs.Common.{AllPairs, common_steps, flat_map, IsPermutation-refl}
use Rattle.ent_shared.proofs.Common.{IsPermutation-sym, IsPermutation-trans}
use Rattle.ent_shared.proofs.Common.{IsPermutation-append_right, AllPairs-IsPermutation}
use Rattle.ent_shared.proofs.Common.{Reservation, Record, insert_reservation, by_falling_high}
use Rattle.ent_shared.proofs.Common.{own_of_all, history_of, handles_of, handles_given}
use Rattle.ent_shared.proofs.Common.{IsPermutation}
use Rattle.ent_shared.proofs.Regrouping.{turned}
use Rattle.ent_alloc.specs.History as history

-- A reservation and a meeting, and what they add to a record.

pub handles_of-append : (xs ys : List Reservation)
    → handles_of (xs ++ ys) ≡ handles_of xs ++ handles_of ys
handles_of-append [] ys = refl
handles_of-append (x ∷ xs) ys = grind (arith, common_steps, handles_of-append xs ys)

given_inserted : (c : Reservation) (cs : List Reservation)
    → IsPermutation (handles_of (c ∷ cs)) (handles_of (insert_reservation c cs))
given_inserted c [] = IsPermutation-refl (handles_of (c ∷ []))
given_inserted c (d ∷ ds) =
    let turn = turned (history.handles_in c.reply) (history.handles_in d.reply) (handles_of ds) in
    let rest = IsPermutation-append_right (history.handles_in d.reply) _ _ (given_inserted c ds) in
    search (rules, IsPermutation-refl, IsPermutation-trans, turn, rest)

given_sorted : (cs : List Reservation)
    → IsPermutation (handles_of cs) (handles_of (by_falling_high cs))
given_sorted [] = IsPermutation-refl []
given_sorted (c ∷ cs) =
    IsPermutation-trans _ _ _ (IsPermutation-append_right _ _ _ (given_sorted cs))
    (given_inserted c (by_falling_high cs))

given_all : (records : List Record)
    → handles_of (own_of_all records) ≡ flat_map handles_given records
given_all [] = refl
given_all (r ∷ records) = search (rules, handles_of-append, given_all records)

-- what the reservers were given, one after the other, is what the history gives
pub given-IsPermutation : (records : List Record) → IsPermutation (flat_map handles_given records)
    (history.given_in (history_of records))
given-IsPermutation records =
    grind (arith, common_steps, given_all records, given_sorted (own_of_all records))

-- so no handle stands twice in that either
pub given-distinct : (records : List Record)
    → AllPairs (λ g h. g ≢ h) (history.given_in (history_of records))
    → AllPairs (λ g h. g ≢ h) (flat_map handles_given records)
given-distinct records distinct =
    AllPairs-IsPermutation (λ g h. g ≢ h) (λ g h apart same. apart (sym same)) _ _
    (search (rules, IsPermutation-sym, given-IsPermutation)) distinct
