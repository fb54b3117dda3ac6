-- Holders that share out the same records in two ways: what the records weigh and what holds of
-- each. So a rule that goes by the records holds on as they move from holder to holder.
use Rattle.ent_shared.proofs.Common.{All-left, All-right, common_steps, rules, arith, ◌≡◌, ℕ, zero}
use Rattle.ent_shared.proofs.Common.{suc, List, [], ◌∷◌, ◌++◌, length, set, sym, ◌∙◌, append_assoc}
use Rattle.ent_shared.proofs.Common.{append-nil, IsPermutation, sum_by, All, set_comm}
use Rattle.ent_shared.proofs.Common.{flat_map-append, length-flat_map, All-nil, All-cons}
use Rattle.ent_shared.proofs.Common.{IsPermutation-refl, IsPermutation-sym, IsPermutation-trans}
use Rattle.ent_shared.proofs.Common.{IsPermutation-append, IsPermutation-append_comm}
use Rattle.ent_shared.proofs.Common.{sum_by-IsPermutation, All-permutation, length_permutation}
use Rattle.ent_shared.proofs.Common.{some, some-ne-none, get_elem?, set_else, set_again, records_in}
use Rattle.ent_shared.proofs.Common.{IsPermutation-append_right, take, drop, refl, State, Splits}
use Rattle.ent_shared.proofs.Common.{Joins, Enters, GoesByRecords}
use Rattle.ent_shared.proofs.Weighing.{sum_by-flat_map, All-flat_map}

module _ {R : Type 0} where
  all_out : (P : R → Type 0) (views : List (List R)) → All P (records_in views) → All (All P) views
  all_out P [] all = All-nil (All P)
  all_out P (v ∷ views) all =
      All-cons (All P) v views (All-left P v _ all) (all_out P views (All-right P v _ all))

  module _ (before after : List (List R))
      (same : IsPermutation (records_in before) (records_in after)) where
    pub sum_regrouped : (f : R → ℕ) → sum_by (λ (v : List R). sum_by f v) after
        ≡ sum_by (λ (v : List R). sum_by f v) before
    sum_regrouped f = grind (arith, sum_by-flat_map (λ (v : List R). v) f, sum_by-IsPermutation)

    pub length-regrouped : sum_by length after ≡ sum_by length before
    length-regrouped = search (rules, length-flat_map, length_permutation)

    pub all_regrouped : (P : R → Type 0) → All (All P) before → All (All P) after
    all_regrouped P all = search (rules, all_out, All-permutation, All-flat_map (λ (v : List R). v))

  -- three lists of which the first two change places
  pub turned : (xs ys zs : List R) → IsPermutation (xs ++ (ys ++ zs)) (ys ++ (xs ++ zs))
  turned xs ys zs =
      rw (sym (append_assoc xs ys zs), sym (append_assoc ys xs zs))
      (IsPermutation-append _ _ _ _ (IsPermutation-append_comm xs ys) (IsPermutation-refl zs))

  -- the records of one holder, and then those of the others
  set_first : (views : List (List R)) (id : ℕ) (v w : List R) → get_elem? views id ≡ some v
      → IsPermutation (records_in (set views id w)) (w ++ records_in (set views id []))
  set_first [] id v w at = absurd (some-ne-none v (sym at))
  set_first (x ∷ views) zero v w at = IsPermutation-refl _
  set_first (x ∷ views) (suc id) v w at = IsPermutation-trans _ _ _
      (IsPermutation-append_right x _ _ (set_first views id v w at)) (turned x w _)

  seat_first : (views : List (List R)) (id : ℕ) (v : List R) → get_elem? views id ≡ some v
      → IsPermutation (records_in views) (v ++ records_in (set views id []))
  seat_first views id v at = search (rules, set_again views id v, set_first views id v v)

  -- a holder's records in two holders
  pub same_split : (views : List (List R)) (id : ℕ) (v left right : List R)
      → get_elem? views id ≡ some v → IsPermutation v (left ++ right)
      → IsPermutation (records_in views) (records_in (set views id left ++ right ∷ []))
  same_split views id v left right at parts =
      let others : List R = records_in (set views id []) in
      let first : IsPermutation (records_in views) ((left ++ right) ++ others) = search
      (rules, IsPermutation-trans, seat_first, IsPermutation-append, IsPermutation-refl) in
      let second : IsPermutation ((left ++ right) ++ others) ((left ++ others) ++ right) = search
      (rules, append_assoc, IsPermutation-append, IsPermutation-refl, IsPermutation-append_comm) in
      let third : IsPermutation ((left ++ others) ++ right)
      (records_in (set views id left) ++ right) = search
      (rules, IsPermutation-append, IsPermutation-sym, set_first, IsPermutation-refl) in
      search (rules, append-nil, flat_map-append, IsPermutation-trans)

  -- two holders' records in one
  pub same_join : (views : List (List R)) (id other : ℕ) (v w both : List R)
      → get_elem? views id ≡ some v → ¬ (other ≡ id) → get_elem? (set views id both) other ≡ some w
      → IsPermutation (v ++ w) both
      → IsPermutation (records_in views) (records_in (set (set views id both) other []))
  same_join views id other v w both at apart there parts =
      let bare : List (List R) = set views other [] in
      let others : List R = records_in (set bare id []) in
      let second : get_elem? views other ≡ some w = sym (set_else views id other both apart)
      ∙ there in
      let first : get_elem? bare id ≡ some v = set_else views other id [] (λ e. apart (sym e))
      ∙ at in
      let two : IsPermutation (records_in views) (w ++ (v ++ others)) = search
      (rules, IsPermutation-trans, seat_first, IsPermutation-append, IsPermutation-refl) in
      let one : IsPermutation (w ++ (v ++ others)) (both ++ others) =
      IsPermutation-trans _ _ _ (turned w v others)
      (rw (sym (append_assoc v w others))
      (IsPermutation-append _ _ others others parts (IsPermutation-refl others))) in
      let set_both : IsPermutation (both ++ others) (records_in (set bare id both)) = search
      (rules, IsPermutation-sym, set_first) in
      grind (arith, common_steps, set_comm, IsPermutation-trans)

  -- one more holder, which has no record
  pub same_entered : (views : List (List R)) → records_in (views ++ [] ∷ []) ≡ records_in views
  same_entered views = search (rules, flat_map-append, append-nil)

module _ {R : Type 0} (holds : State (Unit {0}) (List R) → Type 0) (rule : GoesByRecords holds)
  where
    pub splits : (id : ℕ) (v left right : List R) → IsPermutation v (left ++ right)
        → Splits holds id v left right
    splits id v left right parts s k at = rule s _ (same_split s.views id v left right at parts) k

    pub splits_first : (id : ℕ) (v : List R) → Splits holds id v (drop 1 v) (take 1 v)
    splits_first id [] = splits id [] [] [] (IsPermutation-refl [])
    splits_first id (r ∷ v) = splits id (r ∷ v) v (r ∷ []) (IsPermutation-append_comm (r ∷ []) v)

    pub merges : (id other : ℕ) (v w : List R) → Joins holds id v other w (v ++ w) []
    merges id other v w s k at apart there =
        rule s _
        (same_join s.views id other v w (v ++ w) at apart there (IsPermutation-refl (v ++ w))) k

    pub enters : (slots : ℕ) → Enters holds slots 0 (λ word view. view ≡ [])
    enters slots s k _ _ = ([], rule s _ (rw (same_entered s.views) (IsPermutation-refl _)) k, refl)
