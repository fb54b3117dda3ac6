-- A birth that is looked up in the list of all entities.
use Rattle.spawnrun_lib.proofs.Common.{rules, ◌≡◌, ◌≢◌, ◌⊎◌, ℕ, ◌<◌, ◌≤◌, true, false, List, length}
use Rattle.spawnrun_lib.proofs.Common.{get_or, Option, Some, arith, Contains, Ordering, Less, Equal}
use Rattle.spawnrun_lib.proofs.Common.{Greater, eq_by_cmp, is_lt, option_cmp, option_eq}
use Rattle.spawnrun_lib.proofs.Common.{IsTotalOrder, tied_itself, options_total, IsPartitionedBy}
use Rattle.spawnrun_lib.proofs.Common.{cases_lt, false≢true, get_or_default, Birth, birth_cmp}
use Rattle.spawnrun_lib.proofs.Common.{birth_cmp_total, birth_cmp-IsAntisymmetric, Handle}
use Rattle.spawnrun_lib.proofs.Common.{handle_cmp, handle_cmp_total, birth_order, ListsAll}
use Rattle.spawnrun_lib.proofs.Common.{EntityMap, birth_of, same_birth, View, is_before}
use Rattle.spawnrun_lib.proofs.Common.{IsFirstFrom, ◌-◌}

abbrev key_cmp : Option Birth → Option Birth → Ordering
key_cmp = option_cmp birth_cmp

key_total : IsTotalOrder key_cmp
key_total = options_total birth_cmp_total

-- two births that are tested
pub same_if_equal : (o : Option Birth) (birth : Birth)
    → option_eq (eq_by_cmp birth_cmp) o (Some birth) ≡ true → o ≡ Some birth
same_if_equal it birth e = search (rules, false≢true, same_birth)

pub other_if_not : (o : Option Birth) (birth : Birth)
    → option_eq (eq_by_cmp birth_cmp) o (Some birth) ≡ false → o ≢ Some birth
other_if_not it birth e is = search rules

-- ---- what tests tell

less_if : (r : Ordering) → is_lt r ≡ true → r ≡ Less
less_if it e = search (rules, false≢true)

module _ (view : View) (birth : Birth) where
  abbrev m : EntityMap
  m = view.entities

  in_order : (a b : Handle) → birth_order m a b ≡ Less
      → (key_cmp (birth_of m a) (birth_of m b) ≡ Less)
      ⊎ ((key_cmp (birth_of m a) (birth_of m b) ≡ Equal) × (handle_cmp a b ≡ Less))
  in_order a b e = search rules

  -- who stands before an earlier birth has an earlier birth
  before_too : (a b : Handle) → birth_order m a b ≡ Less → is_before view birth b ≡ true
      → is_before view birth a ≡ true
  before_too a b e is = search (
    rules,
    in_order a b e,
    key_total.trans (birth_of m a) (birth_of m b) (Some birth),
    key_total.congr (birth_of m a) (birth_of m b) (Some birth),
    less_if,
  )

  pub parted : (handles : List Handle) → ListsAll m handles
      → IsPartitionedBy (is_before view birth) handles
  parted handles lists i j d le lt is =
      search (
        rules,
        arith,
        cases_lt i j,
        before_too (get_or handles i d) (get_or handles j d),
        lists.rising i j d,
      )

  module _ (handles : List Handle) (lists : ListsAll m handles) (index : ℕ) (d e : Handle)
      (within : index < length handles)
      (later : is_before view birth (get_or handles index d) ≡ false) where
    -- from there on nobody has an earlier birth
    later_too : (k : ℕ) (f : Handle) → index ≤ k → k < length handles
        → is_before view birth (get_or handles k f) ≡ false
    later_too k f le lt = search (
      rules,
      false≢true,
      parted handles lists index k f le lt,
      get_or_default handles index d f within,
      later,
    )

    -- a guess that was right
    pub first_of_all : index ≡ 0 → IsFirstFrom view birth handles index
    first_of_all none = (λ k f z lt. absurd (omega (arith, none, lt)), later_too)

    pub first_behind : (index ≡ 0 → ⊥)
        → is_before view birth (get_or handles (index - 1) e) ≡ true
        → IsFirstFrom view birth handles index
    first_behind some before = (
      λ k f z lt.
          parted handles lists k (index - 1) f (omega (arith, lt)) (omega (arith, within, lt))
          (rw (← get_or_default handles (index - 1) e f (omega (arith, within, lt))) before),
      later_too,
    )

  -- who has a birth is listed
  listed : (handles : List Handle) → ListsAll m handles → (h : Handle) → birth_of m h ≡ Some birth
      → Contains handles h
  listed handles lists h is = (lists.holds h).1 (search rules)

  module _ (handles : List Handle) (lists : ListsAll m handles) (index : ℕ)
      (first : IsFirstFrom view birth handles index) where
    -- who has the birth stands at the index or after it
    at_or_after : (h : Handle) (k : ℕ) → k < length handles → get_or handles k h ≡ h
        → birth_of m h ≡ Some birth → index ≤ k
    at_or_after h k lt here is = search (rules, cases_lt, false≢true, birth_cmp_total)

    module _ (h : Handle) (within : index < length handles) (here : get_or handles index h ≡ h)
      where
        -- another one with the birth is the same, or stands after it
        after : (g : Handle) → birth_of m g ≡ Some birth → (g ≡ h) ⊎ (birth_order m h g ≡ Less)
        after g is =
            let at = listed handles lists g is in
            search (
              rules,
              arith,
              at_or_after g at.0 at.1 at.2,
              get_or_default handles index g h within,
              cases_lt index at.0,
              lists.rising index at.0 g,
            )

        pub least_here : birth_of m h ≡ Some birth → (g : Handle) → birth_of m g ≡ Some birth
            → handle_cmp h g ≢ Greater
        least_here own g is greater =
            search (rules, after g is, in_order h g, tied_itself handle_cmp_total h)

        pub none_here : birth_of m h ≢ Some birth → (g : Handle) → birth_of m g ≢ Some birth
        none_here other g is =
            search (
              rules,
              arith,
              first.1 index h,
              after g is,
              in_order,
              false≢true,
              birth_cmp-IsAntisymmetric,
            )
