-- Which components any of the entities has: each is below the width.
use Rattle.ent_storage.proofs.Common.{option_and_then_some, subst, ◌≡◌, sym, ap, ◌∙◌, ℕ, ℤ, ◌<◌}
use Rattle.ent_storage.proofs.Common.{◌≤◌, List, Some, arith, inl, inr, All, FinMap, cases_lt}
use Rattle.ent_storage.proofs.Common.{false≢true, same_Some, ComponentId, Handle, handle_cmp}
use Rattle.ent_storage.proofs.Common.{Entity, Store, value_of, width, IsIndexed, map_of}
use Rattle.ent_storage.proofs.Common.{handles_by_place, LivingEntity, fin_get, or_right, ◌↔◌, refl}
use Rattle.ent_storage.proofs.Common.{zero, suc, Bool, true, false, not, ◌||◌, [], ◌∷◌, length}
use Rattle.ent_storage.proofs.Common.{Option, None, Contains, is_some, slice_get, list_any}
use Rattle.ent_storage.proofs.Common.{option_and_then, value_at_place, is_held}
use Rattle.ent_storage.proofs.ImageEntities.{not_held}
use Rattle.ent_storage.proofs.Indexed.{some_entity, get_placed, placed_from_get}
use Rattle.ent_storage.proofs.Placed.{place_from_placed}
use Rattle.ent_storage.proofs.Keys.{none_from}

module _ {A : Type 0} (f : Handle → Option A) where
  pub none_held : (hs : List Handle) → ((p : ℕ) → option_and_then f (slice_get hs p) ≡ None)
      → list_any (λ h. is_some (f h)) hs ≡ false
  none_held [] none = refl
  none_held (h ∷ hs) none =
      let here = ap is_some (none 0) in let rest = none_held hs (λ p. none (suc p)) in
      λ i. here i || rest i

  pub some_held : (hs : List Handle) (p : ℕ) (v : A) → option_and_then f (slice_get hs p) ≡ Some v
      → list_any (λ h. is_some (f h)) hs ≡ true
  some_held [] p v is = ap is_some is
  some_held (h ∷ hs) zero v is = ap (λ o. is_some o || list_any (λ g. is_some (f g)) hs) is
  some_held (h ∷ hs) (suc p) v is = or_right (is_some (f h)) _ (some_held hs p v is)

-- those that have the component are listed, so one has it if the list isn't empty
pub held : (s : Store) (id : ComponentId) (pairs : List (ℕ × ℤ))
    → ((place : ℕ) (v : ℤ) → Contains pairs (place, v) ↔ (value_at_place s place id ≡ Some v))
    → (empty : Bool) → (empty ≡ true → length pairs ≡ 0) → (empty ≡ false → 0 < length pairs)
    → not empty ≡ is_held s.entities s.places id.0
held s id [] has true none some = sym (none_held (λ h. value_of s.entities h id) s.places
    (λ p. none_from (value_at_place s p id)
    (λ v is. let listed = (has p v).1 is in omega (arith, listed.1))))
held s id [] has false none some = absurd (omega (arith, some refl))
held s id (pair ∷ pairs) has true none some = absurd (omega (arith, none refl))
held s id (pair ∷ pairs) has false none some =
    sym
    (some_held (λ h. value_of s.entities h id) s.places pair.0 pair.1
    ((has pair.0 pair.1).0 (0, omega arith, refl)))

-- ---- the width

module _ (living : List LivingEntity) (index : FinMap handle_cmp ℕ) (spare : ℕ) (s : Store)
    (indexed : IsIndexed living index) (view : record {
      entities = map_of living;
      places = handles_by_place living;
      spare = spare;
    } ≡ s) (count : ℕ) (few : count
    ≤ 256) (inside : All (λ (e : LivingEntity). (id : ComponentId) (v : ℤ)
    → fin_get e.components id ≡ Some v → id.0 < count) living) where
  pub within : (h : Handle) (id : ComponentId) (v : ℤ) → value_of s.entities h id ≡ Some v
      → id.0 < width s.entities s.places
  unfolding width
  within h id v =
      subst (λ (s : Store). value_of s.entities h id ≡ Some v → id.0 < width s.entities s.places)
      view
      (λ is.
      option_and_then_some (λ (e : Entity). fin_get e.components id) _ v is (λ e found at.
      let place = placed_from_get living index indexed h e found in
      let i = place.0 in
      let same =
      same_Some _ _ (sym found ∙ get_placed living index indexed h i (some_entity h) place.1) in
      let below = inside i (some_entity h) (indexed.each_place h i place.1).0 id v
      (sym (ap (λ (x : Entity). fin_get x.components id) same) ∙ at) in
      let held = some_held (λ g. value_of (map_of living) g id) (handles_by_place living) i v
      (rw (place_from_placed living index indexed h i place.1) is) in
      elim (cases_lt id.0 (width (map_of living) (handles_by_place living))) [
        | inl lt ↦ lt
        | inr least ↦ absurd
            (false≢true (sym (not_held (map_of living) (handles_by_place living) 256 id.0 least
            (omega (arith, few, below))) ∙ held))
      ]))
