-- The living entities: a finite map from handles to births and components.
use Rattle.std.specs.Prelude.{◌≡◌, ℕ, ℤ, List, Option, Some, refl, option_and_then, slice_get}
use Rattle.std.specs.Coded.{Coded, code_by, coded×, coded_list, coded_ℕ}
use Rattle.std.specs.Option.{option_map, option_map_or}
use Rattle.std.specs.FinMap as map
use Rattle.ent_handle.specs.declared.birth.Birth.{Birth}
use Rattle.ent_handle.specs.declared.component.ComponentId.{ComponentId}
use Rattle.ent_handle.specs.Birth.{birth_code}
use Rattle.ent_handle.specs.Handle.{Handle, handle_cmp, handle_code}
use Rattle.ent_storage.specs.Components.{Components, components_code}

-- when an entity was brought to life, and the components that it has
pub record Entity : Type 0 where
  pub birth : Birth
  pub components : Components

-- each living entity, under its handle
abbrev pub EntityMap : Type 0
EntityMap = map.FinMap handle_cmp Entity

-- an entity as it is born: without components
abbrev pub newborn : Birth → Entity
newborn birth = record { birth = birth; components = map.empty }

-- the birth of the entity, if it is there
abbrev pub birth_of : EntityMap → Handle → Option Birth
birth_of m h = option_map (λ e. e.birth) (map.get m h)

-- its components
abbrev pub components_of : EntityMap → Handle → Option Components
components_of m h = option_map (λ e. e.components) (map.get m h)

-- the value of one component, if the entity is there and has it
abbrev pub value_of : EntityMap → Handle → ComponentId → Option ℤ
value_of m h id = option_and_then (λ e. map.get e.components id) (map.get m h)

-- no entity has any component
abbrev pub AreBare : EntityMap → Type 0
AreBare m = (h : Handle) (e : Entity) → map.get m h ≡ Some e → e.components ≡ map.empty

-- the map after the components of one entity were changed; the same map if the entity is not there
abbrev pub with_components : EntityMap → Handle → (Components → Components) → EntityMap
with_components m h change =
    option_map_or (λ e. map.insert m h (record e { components = change e.components }))
    (map.get m h) m

-- the map after the birth of one entity was changed; the same map if the entity is not there
abbrev pub with_birth : EntityMap → Handle → Birth → EntityMap
with_birth m h birth =
    option_map_or (λ e. map.insert m h (record e { birth = birth })) (map.get m h) m

-- what contracts see of a storage: its entities, the handle at each place, and for how many more
-- it has room
pub record Store : Type 0 where
  pub entities : EntityMap
  pub places : List Handle
  pub spare : ℕ

-- an entity is stored as the pair of its parts, and a store as the tuple of its parts
abbrev pub entity_code : Coded Entity
entity_code =
    code_by (Birth × Components) (coded× birth_code components_code)
    (λ e. (e.birth, e.components)) (λ p. record { birth = p.0; components = p.1 }) (λ _. refl)

abbrev pub store_code : Coded Store
store_code =
    code_by (EntityMap × (List Handle × ℕ))
    (coded× (map.code handle_code entity_code) (coded× (coded_list handle_code) coded_ℕ))
    (λ s. (s.entities, (s.places, s.spare)))
    (λ p. record { entities = p.0; places = p.1.0; spare = p.1.1 }) (λ _. refl)

-- the value of one component of the entity at a place, if there is an entity and has it
abbrev pub value_at_place : Store → ℕ → ComponentId → Option ℤ
value_at_place s place id =
    option_and_then (λ h. value_of s.entities h id) (slice_get s.places place)
