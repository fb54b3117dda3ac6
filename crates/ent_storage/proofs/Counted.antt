-- The places of an index that count.
use Rattle.ent_storage.proofs.Common.{get_or-set_same, rules, AllPairs, ◌≡◌, ◌≢◌, ℕ, zero, suc, ◌<◌}
use Rattle.ent_storage.proofs.Common.{◌≤◌, Bool, true, false, cond, T, List, [], ◌∷◌, ◌+◌}
use Rattle.ent_storage.proofs.Common.{length, get_or, set, filter, Some, None, refl, sym}
use Rattle.ent_storage.proofs.Common.{ap, ◌∙◌, arith, Less, Greater, tied_itself, false≢true}
use Rattle.ent_storage.proofs.Common.{get_or_default, length-set, AllWithin, insert}
use Rattle.ent_storage.proofs.Common.{subst, IsAt, IsGapFor, filter_passes, FinMap, is_sorted}
use Rattle.ent_storage.proofs.Common.{Handle, handle_cmp, total, same, same_Some, slice_get}
use Rattle.ent_storage.proofs.Common.{slice_get_within}
use Rattle.ent_storage.proofs.Common.{IsFree, has_handle_at, counted, Keeps}
use Rattle.ent_storage.proofs.Common.{HasAll, IsTrue, fin_from_sorted, fin_get, fin_get-from_sorted}
use Rattle.ent_storage.proofs.Common.{fin_get-retain_keys, fin_same_map}
use Rattle.ent_storage.proofs.Keys.{insert_tells, few_apart}
use Rattle.ent_storage.proofs.Indexed.{some_not_none}
use Rattle.ent_storage.proofs.Positions.{rising_at}
use Rattle.ent_storage.proofs.Rising.{equal, get_at, map_insert, map_set, rising_insert, rising_set}
use Rattle.ent_storage.proofs.Overwritten.{is_sorted-filter, find-filter, is_sorted-set}
use Rattle.ent_storage.proofs.Overwritten.{find-set_other}

pub stands : (places : List Handle) (q : Handle) (i : ℕ)
    → has_handle_at places q (Some i) ≡ true → slice_get places i ≡ Some q
stands [] q i e = absurd (false≢true e)
stands (x ∷ places) q zero e = search (rules, equal)
stands (x ∷ places) q (suc i) e = search (rules, stands places q i e)

pub stands_from : (places : List Handle) (q : Handle) (i : ℕ) → slice_get places i ≡ Some q
    → has_handle_at places q (Some i) ≡ true
stands_from places q i at = search (rules, tied_itself)

module _ (places : List Handle) (index : FinMap handle_cmp ℕ) where
  pub get_counted : (q : Handle) → fin_get (counted places index) q
      ≡ cond (has_handle_at places q (fin_get index q)) (fin_get index q) None
  get_counted q = fin_get-retain_keys index (λ h. has_handle_at places h (fin_get index h)) q
      (λ x e. ap (λ h. has_handle_at places h (fin_get index h)) (sym (same q x e)))

  -- a place that counts is in the index, and has the handle
  pub counted_gives : (q : Handle) (i : ℕ) → fin_get (counted places index) q ≡ Some i
      → (fin_get index q ≡ Some i) × (has_handle_at places q (Some i) ≡ true)
  counted_gives q i e = grind (arith, get_counted q)

  pub counted_has : (q : Handle) (i : ℕ) → fin_get index q ≡ Some i
      → has_handle_at places q (Some i) ≡ true → fin_get (counted places index) q ≡ Some i
  counted_has q i at is = search (rules, get_counted)

  pub counted_none : (q : Handle) → fin_get index q ≡ None → fin_get (counted places index) q ≡ None
  counted_none q at = search (rules, get_counted)

  pub counted_not : (q : Handle) (i : ℕ) → fin_get index q ≡ Some i
      → has_handle_at places q (Some i) ≡ false → fin_get (counted places index) q ≡ None
  counted_not q i at is = search (rules, get_counted)

-- what is left after a sweep counts still
pub swept_has : (places : List Handle) (index : FinMap handle_cmp ℕ)
    → HasAll (counted places index) (counted places (counted places index))
swept_has places index q i at =
    counted_has places (counted places index) q i at (counted_gives places index q i at).1

-- what counted is there still, once a pair that did not count has come
module _ (places : List Handle) (first old : FinMap handle_cmp ℕ)
    (all : HasAll (counted places first) old) where
  pub counted_still : (q : Handle) (i : ℕ) → fin_get (counted places first) q ≡ Some i
      → fin_get (counted places old) q ≡ Some i
  counted_still q i at =
      counted_has places old q i (all q i at) (counted_gives places first q i at).1

  all_with_one : (new : FinMap handle_cmp ℕ) (k : Handle) → fin_get (counted places old) k ≡ None
      → Keeps k (counted places old) new → HasAll (counted places first) new
  all_with_one new k none keeps q i at = keeps q i
      (λ same.
      some_not_none i _
      (subst (λ h. fin_get (counted places old) h ≡ Some i) same (counted_still q i at)) none)
      (counted_still q i at)

-- a pair was put, or nothing has changed
pub all_after : (places : List Handle) (first : FinMap handle_cmp ℕ)
    (old new : List (Handle × ℕ)) (k : Handle) (put : Bool)
    → HasAll (counted places first) (fin_from_sorted old)
    → (IsTrue put → fin_get (counted places (fin_from_sorted old)) k ≡ None)
    → (IsTrue put → Keeps k (counted places (fin_from_sorted old)) (fin_from_sorted new))
    → (¬ (IsTrue put) → new ≡ old) → HasAll (counted places first) (fin_from_sorted new)
all_after places first old new k true all none keeps same =
    all_with_one places first (fin_from_sorted old) all (fin_from_sorted new) k (none refl)
    (keeps refl)
all_after places first old new k false all none keeps same =
    rw (same false≢true) all

-- ---- the pairs that count

abbrev pub counts : List Handle → Handle × ℕ → Bool
counts places pair = has_handle_at places pair.0 (Some pair.1)

module _ (places : List Handle) (pairs : List (Handle × ℕ))
    (rising : T (is_sorted handle_cmp pairs)) where
  abbrev left : List (Handle × ℕ)
  left = filter (counts places) pairs

  pub from_sorted_left : fin_from_sorted {R = handle_cmp} (filter (counts places) pairs)
      ≡ counted places (fin_from_sorted pairs)
  from_sorted_left = fin_same_map total same _ _ (λ q. rw (
    get_counted places (fin_from_sorted pairs) q,
    fin_get-from_sorted handle_cmp left q
        (is_sorted-filter total same (counts places) pairs rising),
    fin_get-from_sorted handle_cmp pairs q rising,
    find-filter total same (counts places) pairs q rising,
  )
      (search rules))

  at_home : (k : ℕ) (d : Handle × ℕ) → k < length left
      → slice_get places (get_or left k d).1 ≡ Some (get_or left k d).0
  at_home k d l = search (rules, stands, filter_passes)

  -- no two of them have the same place
  apart_places : AllPairs (λ a b. a.1 ≢ b.1) left
  apart_places i j d l k e =
      let less =
      rising_at total left i j d (is_sorted-filter total same (counts places) pairs rising) l
      k in
      search (rules, at_home i d (omega arith), at_home j d k, same_Some)

  -- so there are no more of them than places
  pub left_fits : length (filter (counts places) pairs) ≤ length places
  left_fits =
      few_apart (λ (e : Handle × ℕ). e.1) left (length places) apart_places
      (λ k d l. slice_get_within places _ _ (at_home k d l))

-- ---- a pair is put over one that does not count, or into its gap

-- the pairs after one was put among them
pub record IsPut (places : List Handle) (old new : List (Handle × ℕ)) (k : Handle) (v : ℕ)
    : Type 0 where
  pub sorted : T (is_sorted handle_cmp new)
  pub placed : fin_get (fin_from_sorted {R = handle_cmp} new) k ≡ Some v
  pub kept : Keeps k (counted places (fin_from_sorted old)) (fin_from_sorted new)

module _ (places : List Handle) (pairs : List (Handle × ℕ))
    (rising : T (is_sorted handle_cmp pairs)) (k : Handle)
    (v : ℕ) (p : ℕ) where
  pub put_over : AllWithin (λ e. handle_cmp e.0 k ≡ Less) pairs 0 p
      → AllWithin (λ e. handle_cmp e.0 k ≡ Greater) pairs
      (p + 1) (length pairs) → IsFree places pairs p → IsPut places pairs (set pairs p (k, v)) k v
  put_over below above free = record {
    sorted = over_sorted;
    placed = search (
      rules,
      get_at total same (set pairs p (k, v)) over_sorted k p (k, v),
      get_or-set_same,
      length-set,
      free.inside,
      tied_itself total k,
    );
    kept = λ q i n at.
        let old = counted_gives places (fin_from_sorted pairs) q i at in
        fin_get-from_sorted handle_cmp _ q over_sorted
        ∙ find-set_other total same k v pairs p q n (other_key q i old.0 old.1) free.inside
        ∙ sym (fin_get-from_sorted handle_cmp pairs q rising) ∙ old.0;
  }
    where
      over_sorted : T (is_sorted handle_cmp (set pairs p (k, v)))
      over_sorted = is_sorted-set total same k v pairs p rising free.inside below above

      -- a handle that counts is not the one put over
      other_key : (q : Handle) (i : ℕ) → fin_get (fin_from_sorted {R = handle_cmp} pairs) q ≡ Some i
          → has_handle_at places q (Some i) ≡ true → (f : Handle × ℕ) → (get_or pairs p f).0 ≢ q
      other_key q i at is f e =
          let here : (g : Handle × ℕ) → get_or pairs p g ≡ get_or pairs p f =
          λ g. get_or_default pairs p g f
          free.inside in
          let found = get_at total same pairs rising q p f (search rules) in
          search (rules, false≢true)

  pub put_between : IsGapFor handle_cmp pairs k p → IsPut places pairs (insert pairs p (k, v)) k v
  put_between gap = record {
    sorted = rising_insert total same pairs rising k p v gap;
    placed = grind (arith, map_insert total same pairs rising k p v gap, insert_tells total same);
    kept =
        λ q i n at.
        grind (
          arith,
          map_insert total same pairs rising k p v gap,
          insert_tells total same,
          counted_gives places (fin_from_sorted pairs) q i at,
        );
  }

  -- over the pair of the same handle
  pub put_same : IsAt handle_cmp pairs k p → IsPut places pairs (set pairs p (k, v)) k v
  put_same at = record {
    sorted = rising_set total same pairs rising k p v at;
    placed = grind (arith, map_set total same pairs rising k p v at, insert_tells total same);
    kept =
        λ q i n old.
        grind (
          arith,
          map_set total same pairs rising k p v at,
          insert_tells total same,
          counted_gives places (fin_from_sorted pairs) q i old,
        );
  }

  -- which did not count
  pub same_not_counted : IsAt handle_cmp pairs k p → IsFree places pairs p
      → fin_get (counted places (fin_from_sorted pairs)) k ≡ None
  same_not_counted at free =
      let d : Handle × ℕ = (k, v) in
      counted_not places (fin_from_sorted pairs) k (get_or pairs p d).1
      (get_at total same pairs rising k p d at)
      (subst (λ h. has_handle_at places h (Some (get_or pairs p d).1) ≡ false)
      (same _ _ (at.has_key d)) (free.gone d))
