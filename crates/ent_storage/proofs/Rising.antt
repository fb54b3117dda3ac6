-- Lists of pairs whose keys strictly rise, as maps: what an edit at a position leaves.
use Rattle.ent_storage.proofs.Common.{common_steps, rules, ◌≡◌, ℕ, zero, suc, ◌+◌, ◌-◌, ◌<◌, ◌≤◌}
use Rattle.ent_storage.proofs.Common.{inl, inr, Bool, T, ◌&&◌, List, [], ◌∷◌, length, get_or, set}
use Rattle.ent_storage.proofs.Common.{Some, None, Ordering, refl, sym, ap, subst, ◌∙◌, arith, Less}
use Rattle.ent_storage.proofs.Common.{Equal, Greater, is_eq, IsTotalOrder, insert, HoldsAt}
use Rattle.ent_storage.proofs.Common.{cases_lt, IsAntisymmetric, find, put, is_sorted}
use Rattle.ent_storage.proofs.Common.{is_sorted-put, IsAt, IsGapFor, fin_empty, fin_empty_of_len}
use Rattle.ent_storage.proofs.Common.{fin_entries-from_sorted, fin_entries-insert, fin_from_sorted}
use Rattle.ent_storage.proofs.Common.{fin_get, fin_get-from_sorted, fin_insert, fin_len-entries}
use Rattle.ent_storage.proofs.Common.{fin_same_entries_map}
use Rattle.ent_storage.proofs.Positions.{second, turn, rising_at, above_head, find_in_gap, inserted}
use Rattle.ent_storage.proofs.Positions.{written}

pub both : (a b : Bool) → T a → T b → T (a && b)
both a b x y = search rules

pub equal : (r : Ordering) → T (is_eq r) → r ≡ Equal
equal r h = search rules

module _ {K X : Type 0} {R : K → K → Ordering} (o : IsTotalOrder R) where
  -- a key that ties at a position is found there
  pub find_at : (es : List (K × X)) (k : K) (i : ℕ) (d : K × X) → T (is_sorted R es) → i < length es
      → R (get_or es i d).0 k ≡ Equal → find R k es ≡ Some (get_or es i d).1
  find_at [] k i d h l t = absurd (omega arith)
  find_at (e ∷ es) k zero d h l t = grind (arith, common_steps, turn)
  find_at (e ∷ es) k (suc i) d h l t = rw (above_head o k e es i d h (omega arith) t)
      (find_at es k i d (second _ _ h) (omega arith) t)

  -- the maps of the edited lists
  pub from_sorted-put : (es : List (K × X)) (k : K) (v : X) → T (is_sorted R es)
      → fin_from_sorted {R = R} (put R k v es) ≡ fin_insert (fin_from_sorted es) k v
  from_sorted-put es k v h =
      fin_same_entries_map _ _ (fin_entries-from_sorted R _ (is_sorted-put R o k v es h)
      ∙ sym
      (fin_entries-insert o (fin_from_sorted es) k v
      ∙ ap (put R k v) (fin_entries-from_sorted R es h)))

-- a key between two neighbours is between all pairs before and all after
pub gap_from_neighbours : {K X : Type 0} {R : K → K → Ordering} (o : IsTotalOrder R)
    (es : List (K × X)) (k : K) (p : ℕ) → T (is_sorted R es) → p ≤ length es
    → ((j : ℕ) → j + 1 ≡ p → HoldsAt (λ e. R e.0 k ≡ Less) es j)
    → (p < length es → HoldsAt (λ e. R e.0 k ≡ Greater) es p) → IsGapFor R es k p
gap_from_neighbours {K = K} {X = X} {R = R} o es k p rising l before after = record {
  in_range = l;
  smaller_before = λ j d low high. elim (cases_lt (j + 1) p) [
    | inl far ↦ search (rules, arith, o.trans, rising_at o es j (p - 1) d rising, before (p - 1))
    | inr near ↦ before j (omega arith) d
  ];
  greater_after = λ j d low high. elim (cases_lt p j) [
    | inl far ↦ search (rules, arith, turn o, o.trans, after, rising_at o es p j d rising)
    | inr near ↦ let same : j ≡ p = omega arith in rw same (after (omega arith) d)
  ];
}

pub from_sorted-nil : {K X : Type 0} (R : K → K → Ordering)
    → fin_from_sorted {X = X} {R = R} [] ≡ fin_empty
from_sorted-nil R =
    fin_empty_of_len _ (fin_len-entries _ ∙ ap length (fin_entries-from_sorted R [] tt))

-- what an edit leaves, if the pairs stand for a map
module _ {K X : Type 0} {R : K → K → Ordering} (o : IsTotalOrder R) (same : IsAntisymmetric R)
    (es : List (K × X))
    (h : T (is_sorted R es)) (k : K) (i : ℕ) where
  pub get_at : (d : K × X) → IsAt R es k i
      → fin_get (fin_from_sorted {R = R} es) k ≡ Some (get_or es i d).1
  get_at d at = fin_get-from_sorted R es k h ∙ find_at o es k i d h at.in_range (at.has_key d)

  pub get_in_gap : IsGapFor R es k i → fin_get (fin_from_sorted {R = R} es) k ≡ None
  get_in_gap gap = fin_get-from_sorted R es k h ∙ find_in_gap o es k i gap

  pub rising_insert : (v : X) → IsGapFor R es k i → T (is_sorted R (insert es i (k, v)))
  rising_insert v gap = subst (λ fs. T (is_sorted R fs)) (sym (inserted o es k v i v gap refl))
      (is_sorted-put R o k v es h)

  pub map_insert : (v : X) → IsGapFor R es k i → fin_from_sorted {R = R} (insert es i (k, v))
      ≡ fin_insert (fin_from_sorted es) k v
  map_insert v gap = search (rules, inserted o es k v i v gap refl, from_sorted-put o es k v h)

  put_over : (v : X) → IsAt R es k i → put R k v es ≡ set es i (k, v)
  put_over v at = search (rules, written o es k v i (k, v) (get_or es i (k, v)) v h)

  pub rising_set : (v : X) → IsAt R es k i → T (is_sorted R (set es i (k, v)))
  rising_set v at = subst (λ fs. T (is_sorted R fs)) (put_over v at) (is_sorted-put R o k v es h)

  pub map_set : (v : X) → IsAt R es k i → fin_from_sorted {R = R} (set es i (k, v))
      ≡ fin_insert (fin_from_sorted es) k v
  map_set v at = search (rules, put_over v, from_sorted-put o es k v h)
