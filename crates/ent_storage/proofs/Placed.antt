-- The handles at the places of the residents.
use Rattle.ent_storage.proofs.Common.{Places, common_steps, rules, ◌≡◌, ℕ, zero, suc, ◌-◌, ◌<◌}
use Rattle.ent_storage.proofs.Common.{List, [], ◌∷◌, length, get_or, set, Some, None, is_some}
use Rattle.ent_storage.proofs.Common.{slice_get, refl, ap, arith, length-map, get_or-map, FinMap}
use Rattle.ent_storage.proofs.Common.{Handle, handle_cmp, LivingEntity, IsMovedInto, Store}
use Rattle.ent_storage.proofs.Common.{IsIndexed, entity_of, map_of, handles_by_place, AreWithout}
use Rattle.ent_storage.proofs.Common.{slice_get-get_or, fin_get}
use Rattle.ent_storage.proofs.ElementsAt.{filled, filled_map}
use Rattle.ent_storage.proofs.Indexed.{some_entity, some_not_none, get_placed, get_unplaced}

pub at_place : (living : List LivingEntity) (i : ℕ) (h : Handle)
    → slice_get (handles_by_place living) i ≡ Some h
    → (i < length living) × ((d : LivingEntity) → (get_or living i d).handle ≡ h)
at_place [] i h e = absurd (some_not_none h None e refl)
at_place (x ∷ living) zero h e = (omega arith, λ d. cc)
at_place (x ∷ living) (suc i) h e = search (rules, at_place living i h e)

pub from_place : (living : List LivingEntity) (i : ℕ) (d : LivingEntity) → i < length living
    → slice_get (handles_by_place living) i ≡ Some (get_or living i d).handle
from_place living i d l =
    search (rules, slice_get-get_or (handles_by_place living) i d.handle, get_or-map, length-map)

module _ (living : List LivingEntity) (index : FinMap handle_cmp ℕ)
    (indexed : IsIndexed living index) (h : Handle)
    (i : ℕ) where
  -- the index has the place at which the handle stands, and no other one
  pub placed_from_place : slice_get (handles_by_place living) i ≡ Some h → fin_get index h ≡ Some i
  placed_from_place e =
      let at = at_place living i h e in
      search (rules, at.1 (some_entity h), indexed.each_entity i at.0 (some_entity h))

  pub place_from_placed : fin_get index h ≡ Some i → slice_get (handles_by_place living) i ≡ Some h
  place_from_placed e = search (rules, from_place living i (some_entity h), some_entity h)

-- the entity whose handle stands at a place
module _ (living : List LivingEntity) (index : FinMap handle_cmp ℕ) (spare : ℕ) (s : Store)
    (indexed : IsIndexed living index) (view : record {
      entities = map_of living;
      places = handles_by_place living;
      spare = spare;
    } ≡ s) (h : Handle) where
  pub placed_at : (i : ℕ) → slice_get s.places i ≡ Some h → fin_get index h ≡ Some i
  placed_at i at = search (rules, placed_from_place)

  pub inside_at : (i : ℕ) → slice_get s.places i ≡ Some h → i < length living
  inside_at i at = search (rules, placed_at)

  pub found_at : (i : ℕ) → slice_get s.places i ≡ Some h
      → fin_get s.entities h ≡ Some (entity_of (get_or living i (some_entity h)))
  found_at i at = search (rules, placed_at, get_placed)

  -- the last one has moved into the place
  pub places_without : (i : ℕ) → slice_get s.places i ≡ Some h → (left : List LivingEntity)
      → IsMovedInto living i left → AreWithout i s.places (handles_by_place left)
  places_without i at left rest =
      let inside = inside_at i at in
      let taken =
      filled_map (λ (e : LivingEntity). e.handle) living left i
      (filled living left i _ _ (some_entity h)
      refl refl rest.one_less (rest.moved, rest.others)) in
      search rules

-- an entity that keeps its handle
pub handles_set : (living : List LivingEntity) (i : ℕ) (entity : LivingEntity)
    → ((d : LivingEntity) → i < length living → entity.handle ≡ (get_or living i d).handle)
    → handles_by_place (set living i entity) ≡ handles_by_place living
handles_set [] i entity is = refl
handles_set (x ∷ living) zero entity is =
    ap (λ (h : Handle). h ∷ handles_by_place living) (is x (omega arith))
handles_set (x ∷ living) (suc i) entity is =
    search (rules, handles_set living i entity (λ d l. is d (omega arith)))

-- a handle has a place if it is in the map
pub placed_known : (living : List LivingEntity) (index : FinMap handle_cmp ℕ)
    → IsIndexed living index → (h : Handle)
    → is_some (fin_get index h) ≡ is_some (fin_get (map_of living) h)
placed_known living index indexed h =
    grind (
      arith,
      common_steps,
      get_unplaced living index indexed h,
      λ (i : ℕ). get_placed living index indexed h i (some_entity h),
    )

-- two values of `Places` with the same parts are the same
pub same_places : (p q : Places) → p.by_handle ≡ q.by_handle → p.room ≡ q.room → p ≡ q
same_places p q by_handle room = λ i. record { by_handle = by_handle i; room = room i }
