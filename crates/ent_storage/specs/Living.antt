-- The living entities place by place, and the residents and columns that represent them.
use Rattle.std.specs.Prelude.{◌≡◌, ◌≢◌, ◌+◌, ◌-◌, ◌<◌, ◌≤◌, ℕ, zero, suc, ℤ, List, [], ◌∷◌, length}
use Rattle.std.specs.Prelude.{Option, None, Some, refl, ◌⊎◌, Contains}
use Rattle.std.specs.List.{All, AllPairs}
use Rattle.std.specs.Prelude.{slice_index_or, slice_get, option_and_then}
use Rattle.std.specs.Option.{option_map}
use Rattle.std.specs.Coded.{Coded, code_by, coded×, coded_list, coded_ℕ}
use Rattle.std.specs.FinMap as map
use Rattle.ent_handle.specs.declared.birth.Birth.{Birth}
use Rattle.ent_handle.specs.declared.component.ComponentId.{ComponentId}
use Rattle.ent_handle.specs.Birth.{birth_code}
use Rattle.ent_handle.specs.Handle.{Handle, handle_code}
use Rattle.ent_storage.specs.Components.{Components, components_code}
use Rattle.ent_storage.specs.SparseSet.{Column, no_column}
use Rattle.ent_storage.specs.declared.living.Resident.{Resident}

-- one living entity
pub record LivingEntity : Type 0 where
  pub handle : Handle
  pub birth : Birth
  pub components : Components

-- the living entities, place by place, and for how many there is room in all
pub record Living : Type 0 where
  pub entities : List LivingEntity
  pub room : ℕ

-- an entity is stored as the tuple of its parts, and the living ones as the pair of these two
abbrev pub living_entity_code : Coded LivingEntity
living_entity_code =
    code_by (Handle × (Birth × Components)) (coded× handle_code (coded× birth_code components_code))
    (λ e. (e.handle, (e.birth, e.components)))
    (λ p. record { handle = p.0; birth = p.1.0; components = p.1.1 }) (λ _. refl)

abbrev pub living_code : Coded Living
living_code =
    code_by (List LivingEntity × ℕ) (coded× (coded_list living_entity_code) coded_ℕ)
    (λ l. (l.entities, l.room)) (λ p. record { entities = p.0; room = p.1 }) (λ _. refl)

-- the column of a component number
abbrev pub column_at : List Column → ℕ → Column
column_at columns number = slice_index_or columns number no_column

-- the value of a component at a place
abbrev pub value_at : List Column → ℕ → ComponentId → Option ℤ
value_at columns place id = map.get (column_at columns id.0).values place

-- the items after one component's value is put before the others'
abbrev pub with_value : Option ℤ → ℕ → List (ComponentId × ℤ) → List (ComponentId × ℤ)
with_value None number items = items
with_value (Some v) number items = (record { 0 = number }, v) ∷ items

-- the components at a place and their values, if the first column is that of the number
abbrev pub items_from : ℕ → List Column → ℕ → List (ComponentId × ℤ)
items_from number [] place = []
items_from number (column ∷ columns) place =
    with_value (map.get column.values place) number (items_from (suc number) columns place)

abbrev pub components_at : List Column → ℕ → Components
components_at columns place = map.from_sorted (items_from 0 columns place)

-- the items at a place whose component numbers are among those
abbrev pub items_of : List ℕ → List Column → ℕ → List (ComponentId × ℤ)
items_of [] columns place = []
items_of (number ∷ numbers) columns place =
    with_value (map.get (column_at columns number).values place) number
    (items_of numbers columns place)

-- the entities of the residents, if the first resident is that of the place
abbrev pub entities_from : ℕ → List Resident → List Column → List LivingEntity
entities_from place [] columns = []
entities_from place (resident ∷ residents) columns =
    record {
      handle = resident.handle;
      birth = resident.birth;
      components = components_at columns place;
    }
    ∷ entities_from (suc place) residents columns

-- each value belongs to one of the residents, and each column to a component number
pub record AreColumnsOf (count : ℕ) (columns : List Column) : Type 0 where
  pub none_beyond : (place : ℕ) (id : ComponentId) → count ≤ place
      → value_at columns place id ≡ None
  pub numbered : length columns ≤ 256

-- the columns in use, in ascending order of number, and no other column has values or room
pub record AreInUse (used : List ℕ) (columns : List Column) : Type 0 where
  pub inside : All (λ number. number < length columns) used
  pub rising : AllPairs (λ a b. a < b) used
  pub rest : (number : ℕ) → Contains used number ⊎ (column_at columns number ≡ no_column)

-- the entities after the components of the one at the place were changed
abbrev pub change_at : List LivingEntity → ℕ → (Components → Components) → List LivingEntity
change_at [] place change = []
change_at (e ∷ es) zero change = record e { components = change e.components } ∷ es
change_at (e ∷ es) (suc place) change = e ∷ change_at es place change

-- the entities after the birth of the one at the place was changed
abbrev pub with_birth_at : List LivingEntity → ℕ → Birth → List LivingEntity
with_birth_at [] place birth = []
with_birth_at (e ∷ es) zero birth = record e { birth = birth } ∷ es
with_birth_at (e ∷ es) (suc place) birth = e ∷ with_birth_at es place birth

-- the component of the entity at the place has that value
abbrev pub IsValueAt : List LivingEntity → ℕ → ComponentId → ℤ → Type 0
IsValueAt living place id v =
    option_and_then (λ e. map.get e.components id) (slice_get living place) ≡ Some v

-- the list without the entity at place i, into which the last one has moved
pub record IsMovedInto (living : List LivingEntity) (i : ℕ) (left : List LivingEntity)
    : Type 0 where
  pub one_less : length left + 1 ≡ length living
  pub moved : (d : LivingEntity) → i + 1 < length living
      → slice_index_or left i d ≡ slice_index_or living (length living - 1) d
  pub others : (k : ℕ) (d : LivingEntity) → k ≢ i → k + 1 < length living
      → slice_index_or left k d ≡ slice_index_or living k d

-- the birth and the handle of the entity at the place
abbrev pub born_at : List LivingEntity → ℕ → Option (Birth × Handle)
born_at living place = option_map (λ e. (e.birth, e.handle)) (slice_get living place)
