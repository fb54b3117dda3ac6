-- The bytes of entities: what the image of a world has of its living ones.
use Rattle.std.specs.Prelude.{◌≡◌, ℕ, zero, suc, ℤ, ◌^◌, ◌<◌, ◌≤◌, Bool, List, [], ◌∷◌, ◌++◌}
use Rattle.std.specs.Prelude.{if◌then◌else◌, Option, None, Some, IsSomeAnd, is_some, Contains, ◌↔◌}
use Rattle.std.specs.Prelude.{IsTrue}
use Rattle.std.specs.List.{flat_map, range_with_len, list_any}
use Rattle.std.specs.Int.{w64, cast_unsigned}
use Rattle.std.specs.Int.RustNames.{FitsSigned}
use Rattle.std.specs.Option.{option_map_or}
use Rattle.std.specs.FinMap as map
use Rattle.ent_handle.specs.declared.birth.Birth.{Birth}
use Rattle.ent_handle.specs.declared.component.ComponentId.{ComponentId}
use Rattle.ent_handle.specs.Bytes.{word, long}
use Rattle.ent_handle.specs.Handle.{Handle}
use Rattle.ent_storage.specs.EntityMap.{EntityMap, birth_of, value_of}

-- ---- an entity

abbrev pub birth_bytes : Birth → List ℕ
birth_bytes b = long b.frame ++ (word b.system ++ word b.ordinal)

-- a value in two's complement after a 1, or a 0 if there is none
abbrev pub value_bytes : Option ℤ → List ℕ
value_bytes None = 0 ∷ []
value_bytes (Some v) = 1 ∷ long (cast_unsigned w64 v)

-- the component of a number
abbrev pub component : ℕ → ComponentId
component number = record { 0 = number }

-- the values of the first components, in ascending order of number
abbrev pub values_bytes : (ComponentId → Option ℤ) → ℕ → List ℕ
values_bytes value width =
    flat_map (λ number. value_bytes (value (component number))) (range_with_len 0 width)

-- the birth of the entity, and the values of its first components
unfoldable pub entity_bytes : ℕ → EntityMap → Handle → List ℕ
entity_bytes width m h =
    option_map_or birth_bytes (birth_of m h) [] ++ values_bytes (value_of m h) width

-- ---- entities

-- one of the entities has the component
abbrev pub is_held : EntityMap → List Handle → ℕ → Bool
is_held m handles number = list_any (λ h. is_some (value_of m h (component number))) handles

-- How many components there are up to the last one that any of the entities has, if none has one
-- past these.
abbrev pub width_below : EntityMap → List Handle → ℕ → ℕ
width_below m handles zero = 0
width_below m handles (suc number) =
    if is_held m handles number then suc number else width_below m handles number

unfoldable pub width : EntityMap → List Handle → ℕ
width m handles = width_below m handles 256

-- how many components have a byte in each entity, and the entities in the order of the handles
abbrev pub entities_bytes : EntityMap → List Handle → List ℕ
entities_bytes m handles =
    word (width m handles) ++ flat_map (entity_bytes (width m handles) m) handles

-- ---- what has an image

-- the numbers of a birth fit
pub record IsBirth (b : Birth) : Type 0 where
  pub frame : b.frame < 2 ^ 64
  pub system : b.system < 2 ^ 32
  pub ordinal : b.ordinal < 2 ^ 32

-- The entity is there, and its numbers fit, as those of each entity of a storage do.
pub record IsStored (m : EntityMap) (h : Handle) : Type 0 where
  pub birth : IsSomeAnd (birth_of m h) IsBirth
  pub numbered : (id : ComponentId) (v : ℤ) → value_of m h id ≡ Some v → id.0 < 256
  pub values : (id : ComponentId) (v : ℤ) → value_of m h id ≡ Some v → FitsSigned w64 v

-- the map has these entities and no others
pub record AreStored (m : EntityMap) (handles : List Handle) : Type 0 where
  pub each : (h : Handle) → Contains handles h → IsStored m h
  pub only : (h : Handle) → IsTrue (map.contains_key m h) → Contains handles h
