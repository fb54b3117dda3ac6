-- The living entities and their index: what the map has at a handle, and after each change.
use Rattle.ent_storage.proofs.Common.{slice_get, slice_get_cases, slice_get-map, slice_get-get_or}
use Rattle.ent_storage.proofs.Common.{none-some, some_pair_parts, map-set, length-map, common_steps}
use Rattle.ent_storage.proofs.Common.{rules, ◌≡◌, ◌≢◌, ℕ, ◌+◌, ◌<◌, ◌⊎◌, inl, inr, List, [], ◌∷◌}
use Rattle.ent_storage.proofs.Common.{◌++◌, map, length, get_or, set, Option, Some, None, is_some}
use Rattle.ent_storage.proofs.Common.{refl, sym, ap, ◌∙◌, arith, get_or_append_left, get_or_push}
use Rattle.ent_storage.proofs.Common.{length-set, length_push, map_push, false≢true, cases_lt}
use Rattle.ent_storage.proofs.Common.{cases_eq, FinMap, Handle, handle_cmp, total, same}
use Rattle.ent_storage.proofs.Common.{LivingEntity, Entity, entity_of, map_of, IsIndexed, fin_empty}
use Rattle.ent_storage.proofs.Common.{fin_from_entries, fin_from_entries_push, fin_get}
use Rattle.ent_storage.proofs.Common.{fin_get-empty, fin_get-from_entries, fin_insert, fin_len}
use Rattle.ent_storage.proofs.ElementsAt.{IsOnce, entry_at, has_entry, len_once, nowhere}
use Rattle.ent_storage.proofs.ElementsAt.{values_set}
use Rattle.ent_storage.proofs.Keys.{same_or_apart, get-insert_same, get-insert_other, insert_tells}

pub some_not_none : {A : Type 0} (x : A) (o : Option A) → o ≡ Some x → o ≢ None
some_not_none x o e n = false≢true (ap is_some (sym n ∙ e))

pub same_number : (i j : ℕ) → (i ≡ j) ⊎ (i ≢ j)
same_number i j = elim (cases_eq i j) [ inl e ↦ inl e | inr n ↦ inr n ]

pub some_entity : Handle → LivingEntity
some_entity h =
    record {
      handle = h;
      birth = record { frame = 0; system = 0; ordinal = 0 };
      components = fin_empty;
    }

pub same_place : (i j : ℕ) → Some i ≡ Some j → i ≡ j
same_place i j e = cc

-- an entity as the map has it
abbrev pub entry : LivingEntity → Handle × Entity
entry entity = (entity.handle, entity_of entity)

module _ (living : List LivingEntity) (index : FinMap handle_cmp ℕ)
    (indexed : IsIndexed living index) where
  place_of : (k : ℕ) (q : Handle) (e : Entity) → slice_get (map entry living) k ≡ Some (q, e)
      → fin_get index q ≡ Some k
  place_of k q e found = search (
    rules,
    slice_get_cases living k,
    slice_get-map entry living k,
    some_pair_parts,
    none-some,
    indexed.each_entity k,
  )

  pub once : IsOnce (map entry living)
  once j k p v w a b = same_place j k (sym (place_of j p v a) ∙ place_of k p w b)

  -- what the map has at a handle that has a place
  pub entry_placed : (q : Handle) (i : ℕ) (d : LivingEntity) → fin_get index q ≡ Some i
      → slice_get (map entry living) i ≡ Some (q, entity_of (get_or living i d))
  entry_placed q i d placed = search (rules, slice_get-map, slice_get-get_or)

  pub get_placed : (q : Handle) (i : ℕ) (d : LivingEntity) → fin_get index q ≡ Some i
      → fin_get (map_of living) q ≡ Some (entity_of (get_or living i d))
  get_placed q i d placed =
      has_entry total same (map entry living) once i q _ (entry_placed q i d placed)

  -- and at one that has none
  pub get_unplaced : (q : Handle) → fin_get index q ≡ None → fin_get (map_of living) q ≡ None
  get_unplaced q none =
      nowhere total same _ q (λ k e found. some_not_none k _ (place_of k q e found) none)

  -- an entity that is in the map has a place
  pub placed_from_get : (q : Handle) (e : Entity) → fin_get (map_of living) q ≡ Some e
      → (i : ℕ) × (fin_get index q ≡ Some i)
  placed_from_get q e found = let at = entry_at total same _ q e found in
      (at.0, place_of _ q e at.1)

  -- no two places have the same handle
  pub distinct : (i j : ℕ) (d : LivingEntity) → i < length living → j < length living
      → (get_or living i d).handle ≡ (get_or living j d).handle → i ≡ j
  distinct i j d l k e = search (rules, same_place)

module _ (living : List LivingEntity) (index : FinMap handle_cmp ℕ)
    (indexed : IsIndexed living index) where
  -- ---- an entity is added under a new handle
  module _ (entity : LivingEntity) (new : fin_get index entity.handle ≡ None) where
    each_entity_pushed : (i : ℕ) (d : LivingEntity) → (i < length living) ⊎ (i ≡ length living)
        → fin_get (fin_insert index entity.handle (length living))
        (get_or (living ++ entity ∷ []) i d).handle ≡ Some i
    each_entity_pushed i d (inl l) =
        let is = get_or_append_left living (entity ∷ []) d i l in
        grind (arith, insert_tells total same)
    each_entity_pushed i d (inr e) =
        let is = get_or_push living entity d i (sym e) in
        let put =
        get-insert_same total same index entity.handle (length living) entity.handle refl in
        cc

    each_place_pushed : (q : Handle) (i : ℕ) → (q ≡ entity.handle) ⊎ (q ≢ entity.handle)
        → fin_get (fin_insert index entity.handle (length living)) q ≡ Some i
        → (i < length (living ++ entity ∷ []))
        × ((d : LivingEntity) → (get_or (living ++ entity ∷ []) i d).handle ≡ q)
    each_place_pushed q i (inl e) at = search (
      rules,
      length_push,
      get_or_push,
      get-insert_same total same index entity.handle (length living) q e,
    )
    each_place_pushed q i (inr n) at = grind (
      arith,
      common_steps,
      length_push,
      indexed.each_place q i,
      get-insert_other total same index entity.handle (length living) q n,
    )

    pub indexed_push : IsIndexed (living ++ entity ∷ [])
        (fin_insert index entity.handle (length living))
    indexed_push =
        search (rules, each_entity_pushed, length_push, each_place_pushed, same_or_apart, cases_lt)

    pub entities_push : map_of (living ++ entity ∷ [])
        ≡ fin_insert (map_of living) entity.handle (entity_of entity)
    entities_push =
        ap (λ es. fin_from_entries {R = handle_cmp} es)
        (map_push (λ entity. (entity.handle, entity_of entity)) living entity)
        ∙ fin_from_entries_push total same _ entity.handle (entity_of entity)
        (sym (fin_get-from_entries total _ entity.handle)
        ∙ get_unplaced living index indexed entity.handle new)

  -- ---- an entity is replaced by another one of the same handle
  module _ (i : ℕ) (entity : LivingEntity) (placed : fin_get index entity.handle ≡ Some i) where
    pub indexed_set : IsIndexed (set living i entity) index
    indexed_set = search (rules, length-set living i entity)

    pub entities_set : map_of (set living i entity)
        ≡ fin_insert (map_of living) entity.handle (entity_of entity)
    entities_set = ap (λ es. fin_from_entries {R = handle_cmp} es) (map-set entry living i entity)
        ∙ values_set total same (map entry living) (once living index indexed) i entity.handle _
        (entry_placed living index indexed entity.handle i entity placed) (entity_of entity)

-- how many there are
pub len_living : (living : List LivingEntity) (index : FinMap handle_cmp ℕ) → IsIndexed living index
    → fin_len (map_of living) ≡ length living
len_living living index indexed = len_once total same _ (once _ _ indexed) ∙ length-map living entry

-- none yet
pub indexed_none : IsIndexed [] fin_empty
indexed_none = search (rules, some_not_none, fin_get-empty)
