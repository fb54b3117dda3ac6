-- The handles of the living entities that pass, by birth and then by handle.
use Rattle.ent_storage.proofs.Common.{All-map, All-contains, Contains-append_right, rules, ◌≡◌, ◌≢◌}
use Rattle.ent_storage.proofs.Common.{ℕ, zero, suc, ◌<◌, Bool, true, false, cond, List, [], ◌∷◌}
use Rattle.ent_storage.proofs.Common.{map, length, get_or, Some, Contains, IsSomeAnd, IsTrue, refl}
use Rattle.ent_storage.proofs.Common.{ap, ◌∙◌, arith, common_steps, Less, is_lt, is_eq, eq_by_cmp}
use Rattle.ent_storage.proofs.Common.{ordering_then, ordering_reverse, IsTotalOrder, then_total}
use Rattle.ent_storage.proofs.Common.{on_total, eq_by_cmp_equiv, All, AllPairs, IsDistinct}
use Rattle.ent_storage.proofs.Common.{get_or_default, sorted_far, ranks_by, All-permutation}
use Rattle.ent_storage.proofs.Common.{Contains-permutation, All-filter, filter_passes}
use Rattle.ent_storage.proofs.Common.{AllPairs-filter, IsDistinct-from_apart}
use Rattle.ent_storage.proofs.Common.{IsDistinct-IsPermutation, apart_from_distinct, FinMap, Birth}
use Rattle.ent_storage.proofs.Common.{birth_cmp_total, Handle, handle_cmp, handle_cmp_total}
use Rattle.ent_storage.proofs.Common.{handle_cmp-IsAntisymmetric, LivingEntity, Entity, entity_of}
use Rattle.ent_storage.proofs.Common.{map_of, IsIndexed, birth_order, pair_cmp, ListsByBirth}
use Rattle.ent_storage.proofs.Common.{IsInOrder, Ordering, filter, fin_get}
use Rattle.ent_storage.proofs.Keys.{apart, AllPairs-map}
use Rattle.ent_storage.proofs.Indexed.{some_entity, get_placed, placed_from_get, distinct}

-- ---- the order is total

pair_cmp_total : IsTotalOrder pair_cmp
pair_cmp_total = then_total (on_total (λ (b : Birth × Handle). b.0) birth_cmp_total)
    (on_total (λ (b : Birth × Handle). b.1) handle_cmp_total)

-- an order that does not turn, at handles that differ
strictly : (r s : Ordering) → is_lt (ordering_reverse (ordering_then r s)) ≡ false → is_eq s ≡ false
    → ordering_then r s ≡ Less
strictly r s h n = search rules

-- ---- membership

pub contains_map : {X Y : Type 0} (f : X → Y) (xs : List X) (x : X) → Contains xs x
    → Contains (map f xs) (f x)
contains_map f xs x h = grind (arith, common_steps)

contains_filter : {X : Type 0} (p : X → Bool) (xs : List X) (x : X) (k : ℕ) → k < length xs
    → get_or xs k x ≡ x → p x ≡ true → Contains (filter p xs) x
contains_filter p [] x k l e pass = absurd (omega arith)
contains_filter p (y ∷ ys) x zero l e pass = search (rules)
contains_filter p (y ∷ ys) x (suc k) l e pass =
    let rest = contains_filter p ys x k (omega arith) e pass in
    elim (p y) as (λ b. Contains (cond b (y ∷ filter p ys) (filter p ys)) x) [
      | true ↦ Contains-append_right (y ∷ []) (filter p ys) x rest
      | false ↦ rest
    ]

pub filter-all : {X : Type 0} (xs : List X) → filter (λ _. true) xs ≡ xs
filter-all [] = refl
filter-all (x ∷ xs) = search (rules, filter-all xs)

-- ---- the births of the entities that pass

abbrev pub born_of : LivingEntity → Birth × Handle
born_of entity = (entity.birth, entity.handle)

module _ (living : List LivingEntity) (index : FinMap handle_cmp ℕ)
    (indexed : IsIndexed living index)
    (passes : Entity → Bool) where
  -- an entity that passes has this birth and this handle
  pub record IsBorn (b : Birth × Handle) : Type 0 where
    pub entity : Entity
    pub there : fin_get (map_of living) b.1 ≡ Some entity
    pub birth : entity.birth ≡ b.0
    pub pass : passes entity ≡ true

  abbrev pub alike : Birth × Handle → Birth × Handle → Bool
  alike a b = eq_by_cmp handle_cmp a.1 b.1

  pub all_there : All (λ entity. fin_get (map_of living) entity.handle ≡ Some (entity_of entity))
      living
  all_there k d l = search (rules, get_placed)

  -- the births are those of the entities that pass, each once
  module _ (births : List (Birth × Handle)) (all_born : All IsBorn births)
      (births_apart : IsDistinct alike births)
      (complete : (i : ℕ) (r : LivingEntity) → i < length living
      → passes (entity_of (get_or living i r)) ≡ true
      → Contains births (born_of (get_or living i r))) (handles : List Handle)
      (ordered : IsInOrder births handles) where
    abbrev sorted : List (Birth × Handle)
    sorted = ordered.sorted

    all_sorted : All IsBorn sorted
    all_sorted = search (rules, All-permutation)

    sorted_apart : IsDistinct alike sorted
    sorted_apart =
        IsDistinct-IsPermutation alike (λ x y. (eq_by_cmp_equiv handle_cmp_total).symm x.1 y.1)
        births sorted ordered.permutation births_apart

    in_order : (i j : ℕ) (b : Birth × Handle) → i < j → j < length sorted
        → birth_order (map_of living) (get_or sorted i b).1 (get_or sorted j b).1 ≡ Less
    in_order i j b l k =
        let born_x : IsBorn (get_or sorted i b) = all_sorted i b (omega arith) in
        let born_y : IsBorn (get_or sorted j b) = all_sorted j b k in
        let unturned =
        sorted_far (λ (p q : Birth × Handle). is_lt (pair_cmp p q))
        (ranks_by pair_cmp_total (λ p. p))
        sorted ordered.in_order i j b (omega arith) k in
        let turned = pair_cmp_total.antisymm (get_or sorted j b) (get_or sorted i b) in
        search (rules, strictly, apart_from_distinct alike sorted i j b sorted_apart l k)

    rising : AllPairs (λ a b. birth_order (map_of living) a b ≡ Less)
        (map (λ (born : Birth × Handle). born.1) sorted)
    rising =
        AllPairs-map (λ a b. birth_order (map_of living) a b ≡ Less)
        (λ (born : Birth × Handle). born.1) _ in_order

    from_list : (h : Handle) → Contains (map (λ (born : Birth × Handle). born.1) sorted) h
        → IsSomeAnd (fin_get (map_of living) h) (λ e. IsTrue (passes e))
    from_list h at =
        All-contains
        (λ (h : Handle). IsSomeAnd (fin_get (map_of living) h) (λ e. IsTrue (passes e))) _ h
        (All-map (λ (h : Handle). IsSomeAnd (fin_get (map_of living) h) (λ e. IsTrue (passes e)))
        (λ (born : Birth × Handle). born.1) sorted (λ k b l. search (rules, all_sorted k b l))) at

    of_entity : (h : Handle) (e : Entity) (i : ℕ) → fin_get (map_of living) h ≡ Some e
        → fin_get index h ≡ Some i → passes e ≡ true
        → Contains (map (λ (born : Birth × Handle). born.1) sorted) h
    of_entity h e i found placed pass =
        let r : LivingEntity = some_entity h in
        let at = indexed.each_place h i placed in
        let here = get_placed _ _ indexed h i r placed in
        let is : entity_of (get_or living i r) ≡ e = cc in
        let listed =
        Contains-permutation _ _ _ ordered.permutation
        (complete i r at.0 (ap passes is ∙ pass)) in
        grind (arith, common_steps, contains_map)

    pub lists_of : ListsByBirth passes (map_of living) handles
    lists_of = search (rules, rising, from_list, placed_from_get, of_entity)

  -- ---- the births of a filtered list

  abbrev chosen : List LivingEntity
  chosen = filter (λ entity. passes (entity_of entity)) living

  abbrev births : List (Birth × Handle)
  births = map born_of chosen

  all_born : All IsBorn births
  all_born = All-map IsBorn born_of chosen (λ k r below. record {
    entity = entity_of (get_or chosen k r);
    there =
        All-filter (λ entity. passes (entity_of entity))
        (λ entity. fin_get (map_of living) entity.handle ≡ Some (entity_of entity)) living all_there
        k r below;
    birth = refl;
    pass = search (rules, filter_passes);
  })

  births_apart : IsDistinct alike births
  births_apart =
      IsDistinct-from_apart alike births
      (AllPairs-map (λ a b. alike a b ≡ false) born_of chosen
      (λ i j r l k. apart handle_cmp_total handle_cmp-IsAntisymmetric _ _
      (AllPairs-filter (λ (a b : LivingEntity). a.handle ≢ b.handle)
      (λ entity. passes (entity_of entity)) living (search (rules, arith, distinct)) i j r l k)))

  complete : (i : ℕ) (r : LivingEntity) → i < length living
      → passes (entity_of (get_or living i r)) ≡ true
      → Contains births (born_of (get_or living i r))
  complete i r l pass =
      let entity : LivingEntity = get_or living i r in
      contains_map born_of chosen entity
      (contains_filter (λ entity. passes (entity_of entity)) living entity i l
      (get_or_default living i entity r l) pass)

  pub lists : (handles : List Handle) → IsInOrder births handles
      → ListsByBirth passes (map_of living) handles
  lists = lists_of births all_born births_apart complete
