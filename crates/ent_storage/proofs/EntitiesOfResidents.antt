-- The living entities that residents and columns stand for, after each change.
use Rattle.ent_storage.proofs.Common.{rules, ◌≡◌, ◌≢◌, ℕ, zero, suc, ◌+◌, ◌-◌, ◌<◌, ◌≤◌, false}
use Rattle.ent_storage.proofs.Common.{List, [], ◌∷◌, ◌++◌, map, length, get_or, Some, None}
use Rattle.ent_storage.proofs.Common.{slice_get, take, drop, refl, ap, arith, common_steps}
use Rattle.ent_storage.proofs.Common.{slice_get_past, slice_get-get_or, slice_get_cases}
use Rattle.ent_storage.proofs.Common.{slice_get-map}
use Rattle.ent_storage.proofs.Common.{get_or_from_slice_get, cases_eq, option_map, eq_by_cmp, Birth}
use Rattle.ent_storage.proofs.Common.{ComponentId, Handle, handle_cmp, Components, Column}
use Rattle.ent_storage.proofs.Common.{IsMovedDown, Resident, LivingEntity, Living, IsMovedInto}
use Rattle.ent_storage.proofs.Common.{AreColumnsOf, change_at, column_at, value_at, components_at}
use Rattle.ent_storage.proofs.Common.{entities_from, born_at, handles_by_place, has_handle_at}
use Rattle.ent_storage.proofs.Common.{fin_empty, fin_get}
use Rattle.ent_storage.proofs.Common.{fin_get-empty, option_and_then}
use Rattle.ent_storage.proofs.ColumnsAtPlaces.{same_components, no_components, get_components}

-- ---- the entity at a place

abbrev pub entity_at : List Column → ℕ → Resident → LivingEntity
entity_at columns place resident = record {
  handle = resident.handle;
  birth = resident.birth;
  components = components_at columns place;
}

pub length_from : (n : ℕ) (residents : List Resident) (columns : List Column)
    → length (entities_from n residents columns) ≡ length residents
length_from n [] columns = refl
length_from n (resident ∷ residents) columns = ap suc (length_from (suc n) residents columns)

entry_from : (n : ℕ) (residents : List Resident) (columns : List Column) (i : ℕ)
    → slice_get (entities_from n residents columns) i
    ≡ option_map (entity_at columns (n + i)) (slice_get residents i)
entry_from n [] columns i = refl
entry_from n (r ∷ residents) columns zero = search rules
entry_from n (r ∷ residents) columns (suc i) =
    search (rules, entry_from (suc n) residents columns i)

pub at_from : (n : ℕ) (residents : List Resident) (columns : List Column) (i : ℕ) (d : LivingEntity)
    → i < length residents → get_or (entities_from n residents columns) i d
    ≡ entity_at columns (n + i) (get_or residents i (record { handle = d.handle; birth = d.birth }))
at_from n residents columns i d l =
    search (rules, get_or_from_slice_get, entry_from, slice_get-get_or)

-- and that at a place of what contracts see
module _ (residents : List Resident) (columns : List Column) (room : ℕ) (living : Living) (i : ℕ)
    (view : record { entities = entities_from 0 residents columns; room = room } ≡ living)
    (there : i < length living.entities) where
  pub inside_from : i < length residents
  inside_from = search (rules, length_from)

  pub read_from : (d : LivingEntity) → get_or living.entities i d
      ≡ entity_at columns i (get_or residents i (record { handle = d.handle; birth = d.birth }))
  read_from d = search (rules, at_from, inside_from)

-- ---- the columns are changed

pub same_from : (n : ℕ) (residents : List Resident) (old new : List Column)
    → ((p : ℕ) (id : ComponentId) → n ≤ p → p < n + length residents
    → value_at new p id ≡ value_at old p id)
    → entities_from n residents new ≡ entities_from n residents old
same_from n [] old new are = refl
same_from n (resident ∷ residents) old new are =
    let rest = same_from (suc n) residents old new (grind (arith, common_steps)) in
    grind (arith, common_steps, same_components)

pub changed_from : (n : ℕ) (residents : List Resident) (old new : List Column) (i p : ℕ)
    (change : Components → Components) → n + i ≡ p
    → components_at new p ≡ change (components_at old p)
    → ((q : ℕ) (id : ComponentId) → q ≢ p → value_at new q id ≡ value_at old q id)
    → entities_from n residents new ≡ change_at (entities_from n residents old) i change
changed_from n [] old new i p change e here others = refl
changed_from n (resident ∷ residents) old new zero p change e here others =
    search (rules, same_from)
changed_from n (resident ∷ residents) old new (suc i) p change e here others =
    search (
      rules,
      same_components,
      changed_from (suc n) residents old new i p change (omega arith) here others,
    )

-- an entity is added
pub pushed_from : (n : ℕ) (residents : List Resident) (columns : List Column) (resident : Resident)
    → ((id : ComponentId) → value_at columns (n + length residents) id ≡ None)
    → entities_from n (residents ++ resident ∷ []) columns ≡ entities_from n residents columns
    ++ record { handle = resident.handle; birth = resident.birth; components = fin_empty } ∷ []
pushed_from n [] columns resident none = search (rules, no_components)
pushed_from n (r ∷ residents) columns resident none =
    search (rules, pushed_from (suc n) residents columns resident)

-- an entity is taken out, and the last one moves to its place
module _ (residents left : List Resident) (i n m : ℕ) (whole : n ≡ length residents)
    (rest : m ≡ length left)
    (one_less : m + 1 ≡ n) (inside : i < n) (by_index : ((d : Resident) → i + 1 < n
    → get_or left i d ≡ get_or residents (n - 1) d) × ((k : ℕ) (d : Resident) → k ≢ i → k + 1 < n
    → get_or left k d ≡ get_or residents k d)) (old new : List Column)
    (down : (number : ℕ)
    → IsMovedDown i (n - 1) (column_at old number).values (column_at new number).values) where
  moved_from : IsMovedInto (entities_from 0 residents old) i (entities_from 0 left new)
  moved_from = record {
    one_less = omega (arith, length_from 0 left new, length_from 0 residents old);
    moved = λ d room.
        let last : length (entities_from 0 residents old) - 1 ≡ n - 1 =
        omega (arith, length_from 0 residents old) in
        search (rules, arith, at_from, length_from 0 residents old, by_index.0, same_components);
    others =
        λ k d far room.
        search (rules, arith, at_from, length_from 0 residents old, by_index.1 k, same_components);
  }

  pub moved : length new ≡ length old → AreColumnsOf (length residents) old
      → IsMovedInto (entities_from 0 residents old) i (entities_from 0 left new)
      × AreColumnsOf (length left) new
  moved len within = search (rules, moved_from, cases_eq)

-- ---- what stays within the residents

pub none_within : AreColumnsOf 0 []
none_within = record { none_beyond = λ p id l. fin_get-empty _ p; numbered = omega arith }

pub changed_within : (count place : ℕ) (old new : List Column) → place < count → length new ≤ 256
    → ((p : ℕ) (id : ComponentId) → p ≢ place → value_at new p id ≡ value_at old p id)
    → AreColumnsOf count old → AreColumnsOf count new
changed_within count place old new inside numbered others within = search (rules)

-- a slice of a whole vector, written back
pub written_back : {X : Type 0} (new old : List X) (n : ℕ) → length new ≡ length old
    → n ≡ length old → take n (new ++ drop (length new) old) ≡ new
written_back new old n same whole = grind (arith, common_steps)

pub born_get : (residents : List Resident) (columns : List Column) (n i : ℕ)
    → born_at (entities_from n residents columns) i ≡ option_map {U = Birth × Handle}
    (λ (resident : Resident). (resident.birth, resident.handle)) (slice_get residents i)
born_get residents columns n i = search (rules, entry_from)

-- the value of a component of the entity at a place
pub value_from : (residents : List Resident) (columns : List Column) (i : ℕ) (id : ComponentId)
    → AreColumnsOf (length residents) columns
    → option_and_then (λ (e : LivingEntity). fin_get e.components id)
    (slice_get (entities_from 0 residents columns) i) ≡ value_at columns i id
value_from residents columns i id within = search
    (rules, slice_get_cases residents i, entry_from 0 residents columns i, get_components)

-- a test of the handle at a place
pub test_at : (residents : List Resident) (columns : List Column) (i : ℕ) (resident : Resident)
    (h : Handle) → slice_get residents i ≡ Some resident
    → has_handle_at (handles_by_place (entities_from 0 residents columns)) h (Some i)
    ≡ eq_by_cmp handle_cmp resident.handle h
test_at residents columns i resident h at = search (rules, entry_from, slice_get-map)

pub test_past : (residents : List Resident) (columns : List Column) (i : ℕ) (h : Handle)
    → length residents ≤ i
    → has_handle_at (handles_by_place (entities_from 0 residents columns)) h (Some i) ≡ false
test_past residents columns i h l = search (rules, entry_from, slice_get_past, slice_get-map)

-- the birth and the handle of each resident
pub births_from : (n : ℕ) (residents : List Resident) (columns : List Column)
    → map {B = Birth × Handle} (λ resident. (resident.birth, resident.handle)) residents
    ≡ map {B = Birth × Handle} (λ e. (e.birth, e.handle)) (entities_from n residents columns)
births_from n [] columns = refl
births_from n (resident ∷ residents) columns = search (rules, births_from (suc n) residents columns)
