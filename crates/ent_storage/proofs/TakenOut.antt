-- An entity is taken out of the living, and the last one moves into its place: the index and what
-- the two stand for.
use Rattle.ent_storage.proofs.Common.{map, ◌≡◌, ◌≢◌, ℕ, ◌+◌, ◌-◌, ◌<◌, ◌≤◌, List, length}
use Rattle.ent_storage.proofs.Common.{get_or, Some, None, refl, arith, rules, cases_lt}
use Rattle.ent_storage.proofs.Common.{FinMap, Handle, handle_cmp, total, same, LivingEntity}
use Rattle.ent_storage.proofs.Common.{IsMovedInto, map_of, IsIndexed, fin_get, fin_insert}
use Rattle.ent_storage.proofs.Common.{fin_remove}
use Rattle.ent_storage.proofs.ElementsAt.{filled, filled_map, values_taken}
use Rattle.ent_storage.proofs.Keys.{same_or_apart, insert_tells, remove_tells}
use Rattle.ent_storage.proofs.Indexed.{entry, once, entry_placed, some_not_none, same_number}
use Rattle.ent_storage.proofs.Indexed.{some_entity, same_place}

-- ---- an entity is taken out, and the last one moves into its place

-- the index without the handle of that entity
pub record IsIndexWithout (index : FinMap handle_cmp ℕ) (living : List LivingEntity) (h : Handle)
    (i : ℕ) (left : FinMap handle_cmp ℕ) : Type 0 where
  pub gone : fin_get left h ≡ None
  pub stay : (q : Handle) (k : ℕ) → q ≢ h → k + 1 < length living → fin_get index q ≡ Some k
      → fin_get left q ≡ Some k
  pub move : (q : Handle) (k : ℕ) → q ≢ h → i + 1 < length living → k + 1 ≡ length living
      → fin_get index q ≡ Some k → fin_get left q ≡ Some i
  pub missing : (q : Handle) → fin_get index q ≡ None → fin_get left q ≡ None

module _ (living : List LivingEntity) (index : FinMap handle_cmp ℕ)
    (indexed : IsIndexed living index) (h : Handle)
    (i : ℕ) (placed : fin_get index h ≡ Some i) where
  -- another handle has another place
  elsewhere : (q : Handle) (k : ℕ) (d : LivingEntity) → q ≢ h → fin_get index q ≡ Some k → k ≢ i
  elsewhere q k d n at e =
      n (cc ((indexed.each_place h i placed).1 d, (indexed.each_place q k at).1 d))

  module _ (left : List LivingEntity) (without : FinMap handle_cmp ℕ)
      (rest : IsMovedInto living i left)
      (now : IsIndexWithout index living h i without) where
    pub indexed_without : IsIndexed left without
    indexed_without =
        search (
          rules,
          same_number,
          same_or_apart,
          some_not_none,
          same_place,
          elsewhere,
          some_entity,
          cases_lt,
        )

    -- the map is without that handle
    pub entities_without : map_of left ≡ fin_remove (map_of living) h
    entities_without =
        values_taken total same (map entry living) (once living index indexed) i h _
        (entry_placed living index indexed h i (some_entity h) placed) (map entry left)
        (once left without indexed_without)
        (filled_map entry living left i
        (filled living left i _ _ (some_entity h) refl refl rest.one_less
        (rest.moved, rest.others)))

  -- the index, if the entity was the last
  pub without_last : i + 1 ≡ length living → IsIndexWithout index living h i (fin_remove index h)
  without_last last = search (rules, arith, remove_tells total same index h)

  -- the index, if the last entity has moved
  module _ (room : i + 1 < length living) (m : Handle) (is : (d : LivingEntity)
      → (get_or living (length living - 1) d).handle ≡ m) where
    placed_last : fin_get index m ≡ Some (length living - 1)
    placed_last = search (rules, is (some_entity h))

    not_gone : h ≢ m
    not_gone e = search (rules, same_place, placed_last)

    pub without_moved : IsIndexWithout index living h i (fin_insert (fin_remove index h) m i)
    without_moved = record {
      gone = grind (arith, insert_tells total same, remove_tells total same, not_gone);
      stay =
          λ q k n l at.
          grind (arith, insert_tells total same, remove_tells total same, placed_last);
      move = λ q k n l last at. let q_is = (indexed.each_place q k at).1 (some_entity h) in
          let m_is = is
          (some_entity h) in grind (arith, insert_tells total same);
      missing =
          λ q none. grind (arith, insert_tells total same, remove_tells total same, placed_last);
    }

-- the entity was the last, or not
module _ (living : List LivingEntity) (index : FinMap handle_cmp ℕ)
    (indexed : IsIndexed living index) (h : Handle)
    (i : ℕ) (placed : fin_get index h ≡ Some i) (left : List LivingEntity)
    (rest : IsMovedInto living i left) where
  module _ (room : i < length left) (m : Handle)
      (is : (d : LivingEntity) → m ≡ (get_or left i d).handle) where
    not_the_last : i + 1 < length living
    not_the_last = omega (arith, rest.one_less)

    was_last : (d : LivingEntity) → (get_or living (length living - 1) d).handle ≡ m
    was_last d = let moved = rest.moved d not_the_last in cc (is d)

    pub indexed_moved : IsIndexed left (fin_insert (fin_remove index h) m i)
    indexed_moved = search (rules, indexed_without, without_moved, not_the_last, was_last)

    pub entities_moved : map_of left ≡ fin_remove (map_of living) h
    entities_moved = entities_without living index indexed h i placed left _ rest
        (without_moved living index indexed h i placed not_the_last m was_last)

  module _ (last : length left ≤ i) where
    pub indexed_popped : IsIndexed left (fin_remove index h)
    indexed_popped = search (rules, indexed_without, without_last)

    pub entities_popped : map_of left ≡ fin_remove (map_of living) h
    entities_popped = search (rules, entities_without, without_last)
