-- The components or the birth of the entity at a place are changed.
use Rattle.ent_storage.proofs.Common.{rules, length-set, ◌≡◌, ℕ, zero, suc, ◌-◌, ◌<◌, List, [], ◌∷◌}
use Rattle.ent_storage.proofs.Common.{length, get_or, set, Some, refl, ap, ◌∙◌, arith}
use Rattle.ent_storage.proofs.Common.{get_or_default, Birth, Handle, Components}
use Rattle.ent_storage.proofs.Common.{Column, Resident, Store, with_components, with_birth}
use Rattle.ent_storage.proofs.Common.{LivingEntity, change_at, with_birth_at, entities_from, map_of}
use Rattle.ent_storage.proofs.Common.{handles_by_place, AreApart, fin_get}
use Rattle.ent_storage.proofs.Indexed.{some_entity, entities_set, get_placed}
use Rattle.ent_storage.proofs.Apart.{apart_set}
use Rattle.ent_storage.proofs.Placed.{handles_set}

-- the resident at the place is written again with another birth
pub reborn_from : (n : ℕ) (residents : List Resident) (columns : List Column) (i : ℕ)
    (birth : Birth)
    (resident : Resident) → i < length residents → resident ≡ get_or residents i resident
    → entities_from n (set residents i (record resident { birth = birth })) columns
    ≡ with_birth_at (entities_from n residents columns) i birth
reborn_from n [] columns i birth resident l read = absurd (omega arith)
reborn_from n (r ∷ residents) columns zero birth resident l read = search (rules)
reborn_from n (r ∷ residents) columns (suc i) birth resident l read = search
    (rules, reborn_from (suc n) residents columns i birth resident (omega arith) read)

pub length_reborn : (living : List LivingEntity) (i : ℕ) (birth : Birth)
    → length (with_birth_at living i birth) ≡ length living
length_reborn (e ∷ living) (suc i) birth = ap suc (length_reborn living i birth)
length_reborn living i birth = refl

reborn_set : (living : List LivingEntity) (i : ℕ) (d : LivingEntity) (birth : Birth)
    → i < length living
    → with_birth_at living i birth ≡ set living i (record (get_or living i d) { birth = birth })
reborn_set [] i d birth l = absurd (omega arith)
reborn_set (e ∷ living) zero d birth l = refl
reborn_set (e ∷ living) (suc i) d birth l =
    ap (λ es. e ∷ es) (reborn_set living i d birth (omega arith))

changed_set : (living : List LivingEntity) (i : ℕ) (d : LivingEntity)
    (change : Components → Components)
    → i < length living → change_at living i change
    ≡ set living i
    (record (get_or living i d) { components = change (get_or living i d).components })
changed_set [] i d change l = absurd (omega arith)
changed_set (e ∷ living) zero d change l = refl
changed_set (e ∷ living) (suc i) d change l =
    ap (λ es. e ∷ es) (changed_set living i d change (omega arith))

-- the store in which the components of one entity are changed
pub record IsChanged (s : Store) (h : Handle) (change : Components → Components)
    (living : List LivingEntity) (room : ℕ) : Type 0 where
  pub entities : map_of living ≡ with_components s.entities h change
  pub places : handles_by_place living ≡ s.places
  pub spare : room - length living ≡ s.spare
  pub apart : AreApart living room

module _ (living : List LivingEntity) (room : ℕ) (apart : AreApart living room)
    (h : Handle) (i : ℕ) (placed : fin_get apart.index h ≡ Some i) where
  abbrev was : LivingEntity
  was = get_or living i (some_entity h)

  its_handle : was.handle ≡ h
  its_handle = (apart.indexed.each_place h i placed).1 (some_entity h)

  at : fin_get apart.index was.handle ≡ Some i
  at = ap (fin_get apart.index) its_handle ∙ placed

  module _ (birth : Birth) where
    is_set : with_birth_at living i birth ≡ set living i (record was { birth = birth })
    is_set = search (rules, reborn_set, some_entity, apart.indexed)

    pub reborn_entities : map_of (with_birth_at living i birth) ≡ with_birth (map_of living) h birth
    reborn_entities = search (rules, is_set, entities_set, at, its_handle, get_placed)

    pub reborn_handles : handles_by_place (with_birth_at living i birth) ≡ handles_by_place living
    reborn_handles = search (rules, is_set, handles_set, get_or_default, some_entity)

    pub reborn_apart : AreApart (with_birth_at living i birth) room
    reborn_apart = search (rules, is_set, apart_set, at)

  pub changed : (s : Store) → record {
    entities = map_of living;
    places = handles_by_place living;
    spare = room - length
        living;
  } ≡ s → (change : Components → Components) (after : List LivingEntity) (now : ℕ)
      → after ≡ change_at living i change → now ≡ room → IsChanged s h change after now
  changed s view change after now is same = rw (
    is,
    same,
    changed_set living i (some_entity h) change
        (apart.indexed.each_place h i placed).0,
    ← view,
  ) (record {
    entities = search (rules, entities_set, at, its_handle, get_placed);
    places = search (rules, handles_set, get_or_default);
    spare = search (rules, length-set);
    apart = search (rules, apart_set, at);
  })
