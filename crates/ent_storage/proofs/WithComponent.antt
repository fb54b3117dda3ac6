-- The entities that have a component, by the pairs of its dense vector.
use Rattle.ent_storage.proofs.Common.{false, All-map, get_or-map, same_lists, option_and_then_some}
use Rattle.ent_storage.proofs.Common.{rules, ◌≡◌, ◌≢◌, ℕ, ℤ, ◌<◌, Bool, true, List, length, get_or}
use Rattle.ent_storage.proofs.Common.{map, Option, IsSome, [], ◌∷◌, Some, slice_get, pos, Contains}
use Rattle.ent_storage.proofs.Common.{inl, inr, refl, sym, ap, subst, ◌∙◌, arith, All, AllPairs}
use Rattle.ent_storage.proofs.Common.{IsDistinct, cases_lt, length-map, get_or_default, none-some}
use Rattle.ent_storage.proofs.Common.{same_Some, slice_get-map, slice_get-get_or, slice_get_past}
use Rattle.ent_storage.proofs.Common.{IsDistinct-from_apart, FinMap, Birth, ComponentId, Handle}
use Rattle.ent_storage.proofs.Common.{handle_cmp, handle_cmp_total, handle_cmp-IsAntisymmetric}
use Rattle.ent_storage.proofs.Common.{Entity, value_of, ListsWith, IsInOrder, LivingEntity}
use Rattle.ent_storage.proofs.Common.{IsValueAt, born_at, entity_of, map_of, handles_by_place}
use Rattle.ent_storage.proofs.Common.{IsIndexed, fin_contains_key, fin_get, option_and_then}
use Rattle.ent_storage.proofs.Keys.{apart, some_value, AllPairs-map}
use Rattle.ent_storage.proofs.Indexed.{some_entity, distinct, get_placed}
use Rattle.ent_storage.proofs.Placed.{from_place}
use Rattle.ent_storage.proofs.ByBirth.{born_of, contains_map, IsBorn, alike, all_there, lists_of}

-- a place at which an entity has a value is inside
value_inside : (living : List LivingEntity) (p : ℕ) (id : ComponentId) (v : ℤ)
    → IsValueAt living p id v → p < length living
value_inside living p id v is = search (rules, cases_lt, none-some, slice_get_past)

pub pair_inside : (living : List LivingEntity) (id : ComponentId) (pairs : List (ℕ × ℤ))
    → ((p : ℕ) (v : ℤ) → Contains pairs (p, v) → IsValueAt living p id v) → (k : ℕ) (d : ℕ × ℤ)
    → k < length pairs → (get_or pairs k d).0 < length living
pair_inside living id pairs has k d l =
    let pair = get_or pairs k d in
    value_inside _ _ id _ (has pair.0 pair.1 (k, l, get_or_default _ k _ d l))

-- the map has at a place's handle what the entity there has
pub same_value : (living : List LivingEntity) (index : FinMap handle_cmp ℕ) → IsIndexed living index
    → (id : ComponentId) (p : ℕ) → option_and_then (λ (e : LivingEntity). fin_get e.components id)
    (slice_get living p) ≡ option_and_then (λ (h : Handle). value_of (map_of living) h id)
    (slice_get (handles_by_place living) p)
same_value living index indexed id p = elim (cases_lt p (length living)) [
  | inl l ↦
      let r : LivingEntity = some_entity (record { index = 0; generation = 0 }) in
      search (
        rules,
        get_placed,
        indexed.each_entity p l r,
        slice_get-get_or living p r l,
        from_place living p r l,
      )
  | inr past ↦ search
      (rules, slice_get-map (λ (e : LivingEntity). e.handle) living p, slice_get_past living p past)
]

-- there are as many births as pairs
pub as_many : (living : List LivingEntity) (births : List (Birth × Handle)) (pairs : List (ℕ × ℤ))
    → map {B = Option (Birth × Handle)} Some births
    ≡ map (λ (pair : ℕ × ℤ). born_at living pair.0) pairs → length births ≡ length pairs
as_many living births pairs are = search (rules, length-map)

module _ (living : List LivingEntity) (index : FinMap handle_cmp ℕ)
    (indexed : IsIndexed living index)
    (id : ComponentId) (pairs : List (ℕ × ℤ)) (births : List (Birth × Handle))
    (are : map {B = Option (Birth × Handle)} Some births
    ≡ map (λ (pair : ℕ × ℤ). born_at living pair.0) pairs)
    (has : (p : ℕ) (v : ℤ) → Contains pairs (p, v) → IsValueAt living p id v)
    (all : (p : ℕ) (v : ℤ) → IsValueAt living p id v → Contains pairs (p, v))
    (once : AllPairs (λ a b. a.0 ≢ b.0) pairs) where
  abbrev passes : Entity → Bool
  passes e = fin_contains_key e.components id

  abbrev unused : LivingEntity
  unused = some_entity (record { index = 0; generation = 0 })

  abbrev born : ℕ × ℤ → Birth × Handle
  born pair = born_of (get_or living pair.0 unused)

  births_are : births ≡ map born pairs
  births_are = same_lists births (map born pairs) (search (rules, as_many, length-map)) (λ k d l.
      let pair : ℕ × ℤ = (0, pos 0) in
      let below : k < length pairs = omega (arith, as_many living births pairs are) in
      let was = get_or-map (λ (b : Birth × Handle). Some b) births k d (Some d) l in
      let is = get_or-map (λ (pair : ℕ × ℤ). born_at living pair.0) pairs k pair (Some d) below in
      let there = slice_get-get_or living _ unused (pair_inside living id pairs has k pair below) in
      let same = ap (λ (bs : List (Option (Birth × Handle))). get_or bs k (Some d)) are in
      rw (get_or-map born pairs k pair d below) (same_Some _ _ (sym was ∙ same ∙ rw there at is)))

  all_born : All (IsBorn living index indexed passes) births
  all_born = rw births_are (All-map (IsBorn living index indexed passes) born pairs (λ k d l.
      let pair = get_or pairs k d in
      let inside = pair_inside living id pairs has k d l in
      let value = has pair.0 pair.1 (k, l, get_or_default _ k _ d l) in
      record {
        entity = entity_of (get_or living pair.0 unused);
        there = all_there living index indexed passes
            pair.0 unused inside;
        birth = refl;
        pass = search
            (rules, slice_get-get_or living pair.0 unused inside, value);
      }))

  births_apart : IsDistinct (alike living index indexed passes) births
  births_apart =
      rw births_are
      (IsDistinct-from_apart (alike living index indexed passes) (map born pairs)
      (AllPairs-map (λ a b. alike living index indexed passes a b ≡ false) born pairs
      (λ i j d l k. apart handle_cmp_total handle_cmp-IsAntisymmetric _ _
      (λ e.
      once i j d l k
      (distinct living index indexed _ _ unused (pair_inside living id pairs has i d (omega arith))
      (pair_inside living id pairs has j d k) e)))))

  complete : (i : ℕ) (r : LivingEntity) → i < length living
      → passes (entity_of (get_or living i r)) ≡ true
      → Contains births (born_of (get_or living i r))
  complete i r l pass =
      let value = some_value _ pass in
      rw (births_are, get_or_default living i r unused l) (contains_map born pairs (i, value.0)
      (all i value.0 (search (rules, slice_get-get_or living i r l, value.1))))

  pub lists_with : (handles : List Handle) → IsInOrder births handles
      → ListsWith id (map_of living) handles
  lists_with = lists_of living index indexed passes births all_born births_apart complete

-- ---- who has it, if anybody does

-- an entity has the component if there is a pair
pub some_with : (living : List LivingEntity) (index : FinMap handle_cmp ℕ) → IsIndexed living index
    → (id : ComponentId) (pairs : List (ℕ × ℤ))
    → ((p : ℕ) (v : ℤ) → Contains pairs (p, v) → IsValueAt living p id v) → 0 < length pairs
    → (h : Handle) × IsSome (value_of (map_of living) h id)
some_with living index indexed id [] has some = absurd (omega arith)
some_with living index indexed id (pair ∷ pairs) has some =
    option_and_then_some (λ (h : Handle). value_of _ h id) _ _
    (sym (same_value _ _ indexed id _) ∙ has pair.0 pair.1 (0, omega arith, refl))
    (λ h _ at. (h, subst IsSome (sym at) refl))
