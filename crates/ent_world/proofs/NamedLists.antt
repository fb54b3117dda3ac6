-- The entities of a world in the order of births are those of the births that tell it, in order.
use Rattle.ent_world.proofs.Common.{common_steps, [], arith, rules, ◌≡◌, refl, sym, ap, ◌∙◌, Bool}
use Rattle.ent_world.proofs.Common.{true, T, true≢false, List, ◌∷◌, map, filter, All, AllPairs}
use Rattle.ent_world.proofs.Common.{Option, Some, None, is_some, option_map, unwrap_or, IsSomeAnd}
use Rattle.ent_world.proofs.Common.{IsTrue, or_right, is_lt, Less, find, is_sorted, below_all}
use Rattle.ent_world.proofs.Common.{same_entries, tied_itself, eq_by_cmp_equiv, All-head, All-tail}
use Rattle.ent_world.proofs.Common.{All-contains_itself, tells_apart, Birth, birth_cmp}
use Rattle.ent_world.proofs.Common.{birth_cmp_total, birth_cmp-IsAntisymmetric, Handle}
use Rattle.ent_world.proofs.Common.{handle_cmp_total, stands_in, itself, same_handle}
use Rattle.ent_world.proofs.Common.{Contains-from_stands_in, stands_in-from_Contains, AllPairs-head}
use Rattle.ent_world.proofs.Common.{AllPairs-tail, is_sorted-filter, find-filter, passed}
use Rattle.ent_world.proofs.Common.{birth_order, ListsByBirth, Entity, EntityMap, Bundle, BirthMap}
use Rattle.ent_world.proofs.Common.{AreNamed, AreNames, IsThere}
use Rattle.std.specs.FinMap as finite
use Rattle.ent_world.proofs.ImageRead.{both}
use Rattle.ent_world.proofs.Named.{entity_with, birth_by_name, names_apart}

-- ---- handles in the order of births

module _ (name : Handle → Birth) (m : EntityMap) (births : BirthMap) (named : AreNamed m births)
    (names : AreNames name m) where
  -- what births tell of a handle
  abbrev items_of : Handle → Bundle
  items_of h = unwrap_or (option_map (λ e. finite.entries e.components) (finite.get m h)) []

  abbrev entry_of : Handle → Birth × Bundle
  entry_of h = (name h, items_of h)

  name_less : (g h : Handle) → IsThere m g → IsThere m h → birth_order m g h ≡ Less
      → T (is_lt (birth_cmp (name g) (name h)))
  name_less g h g_there h_there less = grind (
    arith,
    common_steps,
    birth_by_name name m g names g_there,
    birth_by_name name m h names h_there,
    names_apart name m births named names g h g_there h_there,
    birth_cmp-IsAntisymmetric (name g) (name h),
    tied_itself handle_cmp_total h,
  )

  below-names : (h : Handle) → IsThere m h → (hs : List Handle)
      → All (λ g. birth_order m h g ≡ Less) hs → All (IsThere m) hs
      → T (below_all birth_cmp (name h) (map entry_of hs))
  below-names h there [] less all = tt
  below-names h there (g ∷ hs) less all =
      search (rules, both, name_less, below-names h there hs, All-tail, All-head)

  sorted-names : (hs : List Handle) → AllPairs (λ g h. birth_order m g h ≡ Less) hs
      → All (IsThere m) hs → T (is_sorted birth_cmp (map entry_of hs))
  sorted-names [] rising all = tt
  sorted-names (h ∷ hs) rising all =
      let less = AllPairs-head (λ g h. birth_order m g h ≡ Less) h hs rising in
      let rest = sorted-names hs (AllPairs-tail (λ g h. birth_order m g h ≡ Less) h hs rising) in
      search (rules, both, below-names h, All-head, All-tail, less, rest)

  -- a birth that is found is the name of one of the handles
  found_name : (hs : List Handle) (q : Birth) (o : Option Bundle)
      → find birth_cmp q (map entry_of hs) ≡ o → is_some o ≡ true
      → (h : Handle) × ((stands_in hs h ≡ true) × ((name h ≡ q) × (o ≡ Some (items_of h))))
  found_name [] q o is some = absurd (true≢false (sym some ∙ ap is_some (sym is)))
  found_name (h ∷ hs) q o is some = search (rules, itself, tells_apart, or_right, found_name hs q o)

  -- and the name of each of them is found
  name_found : (hs : List Handle) (h : Handle) → stands_in hs h ≡ true
      → is_some (find birth_cmp (name h) (map entry_of hs)) ≡ true
  name_found [] h there = absurd (true≢false (sym there))
  name_found (g ∷ hs) h there =
      grind (
        arith,
        common_steps,
        name_found hs h,
        same_handle h g,
        (eq_by_cmp_equiv birth_cmp_total).refl (name h),
      )

  -- the entity of a handle that has one which passes
  entity_of : (passes : Entity → Bool) (o : Option Entity) → IsSomeAnd o (λ e. IsTrue (passes e))
      → (e : Entity) × ((o ≡ Some e) × (passes e ≡ true))
  entity_of passes None none = absurd none
  entity_of passes (Some e) is = (e, (refl, is))

  -- Handles in the order of births, with what the births tell of them, are the births' own list.
  module _ (passes : Entity → Bool) (test : Bundle → Bool)
      (alike : (e : Entity) → passes e ≡ test (finite.entries e.components)) (handles : List Handle)
      (lists : ListsByBirth passes m handles) where
    -- what the test leaves of a birth's items
    abbrev kept : Birth → Option Bundle → Option Bundle
    kept q o = passed birth_cmp_total birth_cmp-IsAntisymmetric (λ e. test e.1) q o

    -- nothing is found where no handle is found
    none_kept : (q : Birth) → find birth_cmp q (map entry_of handles) ≡ None → (p : Option Bundle)
        → find birth_cmp q births ≡ p → kept q p ≡ None
    none_kept q none None is = refl
    none_kept q none (Some items) is =
        let one = named.only q items is in
        let h = one.0 in
        let old = entity_with m h q one.1 in
        let told = named.there h old.0 old.1.0 in
        let same = names h old.0 old.1.0 in
        let has = (lists.holds h).1 in
        grind (
          arith,
          common_steps,
          alike old.0,
          name_found handles h,
          stands_in-from_Contains handles h,
        )

    found_alike : (q : Birth) → find birth_cmp q (map entry_of handles)
        ≡ kept q (find birth_cmp q births)
    found_alike q = by (find birth_cmp q (map entry_of handles)) refl
      where
        by : (o : Option Bundle) → find birth_cmp q (map entry_of handles) ≡ o
            → o ≡ kept q (find birth_cmp q births)
        by None none = search (rules, none_kept)
        by (Some v) is =
            let one = found_name handles q (Some v) is refl in
            let has = Contains-from_stands_in handles one.0 one.1.0 in
            let old = entity_of passes (finite.get m one.0) ((lists.holds one.0).0 has) in
            grind (arith, common_steps, named.there one.0 old.0, names one.0 old.0, alike old.0)

    pub listed-named : map entry_of handles ≡ filter (λ entry. test entry.1) births
    listed-named =
        let all : All (IsThere m) handles = search (rules, All-contains_itself handles) in
        same_entries birth_cmp birth_cmp_total birth_cmp-IsAntisymmetric _ _
        (sorted-names handles lists.rising all)
        (is_sorted-filter birth_cmp_total birth_cmp-IsAntisymmetric
        (λ e. test e.1) births named.rising) (λ q. found_alike q
        ∙ sym
        (find-filter birth_cmp_total birth_cmp-IsAntisymmetric (λ e. test e.1) births q
        named.rising))
