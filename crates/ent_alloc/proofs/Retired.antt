-- How many slots are retired: all that were made but those of the living and those of the old
-- handles that may be given.
use Rattle.ent_alloc.proofs.Common.{cases_Bool, rules, ◌≡◌, ℕ, ◌+◌, ◌<◌, ◌≤◌, Bool, true, false}
use Rattle.ent_alloc.proofs.Common.{cond, not, ◌||◌, eqb, List, [], ◌∷◌, length, filter, refl, sym}
use Rattle.ent_alloc.proofs.Common.{◌∙◌, arith, suc, zero, All, AllPairs, Contains, common_steps}
use Rattle.ent_alloc.proofs.Common.{count_by, range_with_len, cases_eq, eq-eqb, ne_eqb, eqb-true}
use Rattle.ent_alloc.proofs.Common.{AllPairs-filter, sum_by-cons, All-head, All-tail, All-contains}
use Rattle.ent_alloc.proofs.Common.{Contains-get_or, Handle, handle_cmp, handle_cmp_total}
use Rattle.ent_alloc.proofs.Common.{handle_cmp-IsAntisymmetric, Allocator, available, top, is_old}
use Rattle.ent_alloc.proofs.Common.{has_slot, retired, stands_in, IsSound, AreApart, IsLive}
use Rattle.ent_alloc.proofs.Common.{Any-from_list_any, list_any_at, list_any_none}
use Rattle.std.specs.FinSet as set
use Rattle.ent_alloc.proofs.ListLaws.{AllPairs-head, AllPairs-tail}
use Rattle.ent_alloc.proofs.HandleSets.{Contains-from_stands_in, stands_in-from_Contains}
use Rattle.ent_alloc.proofs.LaidOut.{old_ones, old_ones_below}

-- ---- counting numbers

abbrev weight : Bool → ℕ
weight b = cond b 1 0

-- how many of the next numbers pass
abbrev count : (ℕ → Bool) → ℕ → ℕ → ℕ
count p from n = count_by p (range_with_len from n)

count-next : (p : ℕ → Bool) (from n : ℕ)
    → count p from (suc n) ≡ weight (p from) + count p (from + 1) n
count-next p from n = search (rules, sum_by-cons)

-- two tests that agree on these numbers
count_alike : (p q : ℕ → Bool) (from n : ℕ) → ((i : ℕ) → from ≤ i → i < from + n → p i ≡ q i)
    → count p from n ≡ count q from n
count_alike p q from zero alike = refl
count_alike p q from (suc n) alike =
    search (rules, count-next, alike from, count_alike p q (from + 1) n)

-- each number passes one of two tests or none, and never both
count-parts : (p q : ℕ → Bool) (from n : ℕ)
    → ((i : ℕ) → from ≤ i → i < from + n → p i ≡ true → q i ≡ true → ⊥)
    → count (λ i. not (p i || q i)) from n + (count p from n + count q from n) ≡ n
count-parts p q from zero apart = refl
count-parts p q from (suc n) apart =
    let rest =
    count-parts p q (from + 1) n (λ k least below. apart k (omega arith) (omega arith)) in
    grind (arith, common_steps, count-next)

count-none : (from n : ℕ) → count (λ _. false) from n ≡ 0
count-none from zero = refl
count-none from (suc n) = search (rules, count-next, count-none (from + 1) n)

-- one number more that passes, if it did not
count-one_more : (p : ℕ → Bool) (k from n : ℕ) → from ≤ k → k < from + n
    → count (λ i. eqb k i || p i) from n ≡ count p from n + weight (not (p k))
count-one_more p k from zero least below = absurd (omega arith)
count-one_more p k from (suc n) least below =
    let now = count-next (λ i. eqb k i || p i) from n in
    let before = count-next p from n in
    let others = count_alike (λ i. eqb k i || p i) p (from + 1) n in
    search (
      rules,
      arith,
      cases_eq k from,
      cases_Bool (p from),
      eq-eqb,
      others,
      ne_eqb,
      count-one_more p k (from + 1) n,
    )

-- ---- the slots of a list

has_slot-found : (handles : List Handle) (index : ℕ) → has_slot handles index ≡ true
    → (h : Handle) × Contains handles h × (h.index ≡ index)
has_slot-found handles index is = search (rules, Any-from_list_any, eqb-true)

has_slot-has : (handles : List Handle) (h : Handle) → Contains handles h
    → has_slot handles h.index ≡ true
has_slot-has handles h has =
    search (rules, list_any_at (λ (x : Handle). eqb x.index h.index) handles has.0 h has.1)

has_slot-apart : (handles : List Handle) (h : Handle) → All (AreApart h) handles
    → has_slot handles h.index ≡ false
has_slot-apart handles h apart = search (rules, list_any_none, ne_eqb)

-- handles of as many slots
count-apart : (handles : List Handle) (n : ℕ) → AllPairs AreApart handles
    → All (λ h. h.index < n) handles → count (has_slot handles) 0 n ≡ length handles
count-apart [] n apart below = count-none 0 n
count-apart (h ∷ handles) n apart below = search (
  rules,
  arith,
  count-apart handles n,
  AllPairs-tail AreApart h handles apart,
  All-tail (λ h. h.index < n) h handles below,
  All-head,
  has_slot-apart,
  AllPairs-head AreApart h handles apart,
  count-one_more (has_slot handles) h.index 0 n,
)

-- a slot has one of these handles at most
abbrev AreAlone : List Handle → Type 0
AreAlone handles = (g h : Handle) → Contains handles g → Contains handles h → g.index ≡ h.index
    → g ≡ h

in_tail : (x : Handle) (handles : List Handle) (h : Handle) → Contains handles h
    → Contains (x ∷ handles) h
in_tail x handles h (k, below, is) = (suc k, omega arith, is)

alone-tail : (x : Handle) (handles : List Handle) → AreAlone (x ∷ handles) → AreAlone handles
alone-tail x handles alone g h in_g in_h = search (rules, in_tail)

has_slot-alone : (handles : List Handle) (h : Handle) → AreAlone (h ∷ handles)
    → has_slot handles h.index ≡ stands_in handles h
has_slot-alone handles h alone =
    let found = has_slot-found handles h.index in
    let same =
    λ (one : has_slot handles h.index ≡ true).
    rw (← alone h (found one).0 (0, omega arith, refl)
    (in_tail h handles (found one).0 (found one).1) (sym (found one).2)) at
    (stands_in-from_Contains handles (found one).0 (found one).1) in
    let has =
    λ (one : stands_in handles h ≡ true).
    has_slot-has handles h (Contains-from_stands_in handles h one) in
    grind (arith, common_steps, same, has)

-- the set of them has as many
count-alone : (handles : List Handle) (n : ℕ) → AreAlone handles → All (λ h. h.index < n) handles
    → count (has_slot handles) 0 n ≡ set.len {R = handle_cmp} (set.from_list handles)
count-alone [] n alone below = count-none 0 n ∙ sym (set.len-empty handle_cmp)
count-alone (h ∷ handles) n alone below =
    let first = below 0 h (omega arith) in
    let rest =
    count-alone handles n (alone-tail h handles alone)
    (All-tail (λ h. h.index < n) h handles below) in
    search (
      rules,
      arith,
      cases_Bool (stands_in handles h),
      rest,
      count-one_more (has_slot handles) h.index 0 n,
      has_slot-alone handles h alone,
      set.len-insert handle_cmp_total (set.from_list handles) h,
      set.contains-from_list handle_cmp_total handles h,
    )

-- of the old slots, the old handles tell
has_slot-old : (made : ℕ) (handles : List Handle) (index : ℕ) → index < made
    → has_slot handles index ≡ has_slot (filter (is_old made) handles) index
has_slot-old made [] index below = refl
has_slot-old made (h ∷ handles) index below =
    grind (arith, common_steps, has_slot-old made handles index below)

-- ---- the slots of an allocator

module _ (s : Allocator) (sound : IsSound s) where
  abbrev living : List Handle
  living = set.items s.live

  lives : (h : Handle) → Contains living h → IsLive s h
  lives h has = set.contains-items s.live h ∙ stands_in-from_Contains living h has

  listed : s.live ≡ set.from_list living
  listed = set.same_set handle_cmp_total handle_cmp-IsAntisymmetric _ _
      (λ q. search (rules, set.contains-items, set.contains-from_list, handle_cmp_total))

  count-living : count (has_slot living) 0 s.made ≡ set.len s.live
  count-living = rw (← listed) at (count-alone living s.made
      (λ g h in_g in_h. sound.one_occupant g h (lives g in_g) (lives h in_h))
      (λ i d lt. (sound.live _ (lives _ (Contains-get_or living i d lt))).made))

  count-waiting : count (has_slot (available s)) 0 s.made ≡ top s
  count-waiting = search (
    rules,
    arith,
    count_alike (has_slot (available s)) (has_slot (old_ones s)) 0 s.made,
    has_slot-old s.made (available s),
    count-apart (old_ones s) s.made,
    AllPairs-filter AreApart (is_old s.made) (available s) sound.apart,
    old_ones_below s,
  )

  -- what is neither alive nor old and to be given is retired
  pub retired-rest : retired s + (set.len s.live + top s) ≡ s.made
  retired-rest =
      let parts = count-parts (has_slot living) (has_slot (available s)) 0 s.made
      (λ i _ _ alive waits. let g = has_slot-found living i alive in
      let h = has_slot-found (available s) i waits in
      All-contains (AreApart g.0) (available s) h.0 (sound.live g.0 (lives g.0 g.1)).apart h.1
      (g.2 ∙ sym h.2)) in
      omega (arith, count-living, count-waiting)
