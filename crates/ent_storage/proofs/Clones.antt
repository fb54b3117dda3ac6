-- Slots that are clones of others, one by one: their maps have the same handles, and each value is
-- a clone of the other's.
use Rattle.ent_storage.proofs.Common.{rules, ◌≡◌, ℕ, ◌+◌, List, ◌∷◌, length, map, sym}
use Rattle.ent_storage.proofs.Common.{length_all_zip, AllZip, entries_from, map_of_slots}
use Rattle.ent_storage.proofs.Common.{AreCounted, AreSlotClones, Slot, fin_keys, fin_values}
use Rattle.ent_storage.proofs.Entries.{entries_map}

module _ {X : Type 0} (is_clone : X → X → Type 0) where
  keys_from : (index : ℕ) (old new : List (Slot X)) → AreSlotClones is_clone old new
      → map (λ e. e.0) (entries_from index new) ≡ map (λ e. e.0) (entries_from index old)
  keys_from index (a ∷ old) (b ∷ new) all = search (rules, keys_from (index + 1) old new all.1)
  keys_from index old new all = search rules

  values_from : (index : ℕ) (old new : List (Slot X)) → AreSlotClones is_clone old new
      → AllZip is_clone (map (λ e. e.1) (entries_from index old))
      (map (λ e. e.1) (entries_from index new))
  values_from index (a ∷ old) (b ∷ new) all = search (rules, values_from (index + 1) old new all.1)
  values_from index old new all = search rules

  pub length_from : (old new : List (Slot X)) → AreSlotClones is_clone old new
      → length new ≡ length old
  length_from old new all = sym (length_all_zip _ old new all)

  count_from : (index : ℕ) (old new : List (Slot X)) → AreSlotClones is_clone old new
      → length (entries_from index new) ≡ length (entries_from index old)
  count_from index (a ∷ old) (b ∷ new) all = search (rules, count_from (index + 1) old new all.1)
  count_from index old new all = search rules

  pub cloned_keys : (old new : List (Slot X)) → AreSlotClones is_clone old new
      → fin_keys (map_of_slots new) ≡ fin_keys (map_of_slots old)
  cloned_keys old new all = search (rules, entries_map, keys_from)

  pub cloned_values : (old new : List (Slot X)) → AreSlotClones is_clone old new
      → AllZip is_clone (fin_values (map_of_slots old)) (fin_values (map_of_slots new))
  cloned_values old new all = search (rules, entries_map, values_from)

  pub cloned_counted : (old new : List (Slot X)) (count : ℕ) → AreSlotClones is_clone old new
      → AreCounted 0 old count → AreCounted 0 new count
  cloned_counted old new count all counted = search (rules, length_from, count_from)
