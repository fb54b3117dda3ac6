-- Residents without an index: no two have the same handle, as an index could have their places.
use Rattle.ent_storage.proofs.Common.{◌≡◌, ℕ, ◌<◌, ◌++◌, ◌∷◌, [], List, length, Some, None}
use Rattle.ent_storage.proofs.Common.{rules, false≢true}
use Rattle.ent_storage.proofs.Common.{arith, get_or, Handle, LivingEntity}
use Rattle.ent_storage.proofs.Common.{AreApart, IsMovedInto, cases_lt, inl, inr, map_of}
use Rattle.ent_storage.proofs.Common.{fin_get, fin_remove, length_push, length-set, set}
use Rattle.ent_storage.proofs.Indexed.{indexed_none, indexed_push, indexed_set, some_entity}
use Rattle.ent_storage.proofs.Placed.{placed_known}
use Rattle.ent_storage.proofs.TakenOut.{entities_moved, entities_popped, indexed_moved}
use Rattle.ent_storage.proofs.TakenOut.{indexed_popped}

-- none yet
pub apart_none : (room : ℕ) → AreApart [] room
apart_none room = record { index = _; indexed = indexed_none; fits = omega arith }

module _ (living : List LivingEntity) (room : ℕ) (apart : AreApart living room) where
  -- who is not in the map has no place
  pub no_place : (h : Handle) → fin_get (map_of living) h ≡ None → fin_get apart.index h ≡ None
  no_place h none =
      let known = placed_known living apart.index apart.indexed h in
      search (rules, known, none, false≢true)

  -- with one more
  pub apart_push : (entity : LivingEntity) → fin_get (map_of living) entity.handle ≡ None
      → length living < room → AreApart (living ++ entity ∷ []) room
  apart_push entity new fits = record {
    index = _;
    indexed = indexed_push living apart.index apart.indexed entity (no_place entity.handle new);
    fits = omega (arith, length_push living entity, fits);
  }

  -- with another one of the same handle
  pub apart_set : (i : ℕ) (entity : LivingEntity) → fin_get apart.index entity.handle ≡ Some i
      → AreApart (set living i entity) room
  apart_set i entity at = record {
    index = apart.index;
    indexed = indexed_set living apart.index apart.indexed i entity at;
    fits = omega (arith, length-set living i entity, apart.fits);
  }

  -- with one less
  module _ (h : Handle) (i : ℕ) (placed : fin_get apart.index h ≡ Some i)
      (left : List LivingEntity) (rest : IsMovedInto living i left) where
    pub apart_left : AreApart left room
    apart_left = elim (cases_lt i (length left)) [
      | inl inside ↦ record {
        index = _;
        indexed =
            indexed_moved living apart.index apart.indexed h i placed left rest inside
            (get_or left i (some_entity h)).handle (λ d. search rules);
        fits = omega (arith, rest.one_less, apart.fits);
      }
      | inr last ↦ record {
        index = _;
        indexed = indexed_popped living apart.index apart.indexed h i placed left rest last;
        fits = omega (arith, rest.one_less, apart.fits);
      }
    ]

    pub left_entities : map_of left ≡ fin_remove (map_of living) h
    left_entities = elim (cases_lt i (length left)) [
      | inl inside ↦
          entities_moved living apart.index apart.indexed h i placed left rest inside
          (get_or left i (some_entity h)).handle (λ d. search rules)
      | inr last ↦ entities_popped living apart.index apart.indexed h i placed left rest last
    ]
