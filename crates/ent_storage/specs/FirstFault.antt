-- Which fault bytes have that are those of no entities: that of the first part that can't be read.
use Rattle.std.specs.Prelude.{◌≡◌, ◌≢◌, ◌⊎◌, ℕ, ◌^◌, ◌<◌, ◌≤◌, List, [], ◌++◌, length, take}
use Rattle.std.specs.Prelude.{Contains, None}
use Rattle.std.specs.List.{flat_map, HoldsAt}
use Rattle.ent_handle.specs.declared.component.ComponentId.{ComponentId}
use Rattle.ent_handle.specs.Handle.{Handle}
use Rattle.ent_storage.specs.EntityMap.{EntityMap, value_of}
use Rattle.ent_handle.specs.Bytes.{word}
use Rattle.ent_storage.specs.Image.{entity_bytes, width, IsStored}
use Rattle.ent_storage.specs.declared.image_fault.StorageImageFault.{StorageImageFault}
use Rattle.ent_storage.specs.declared.image_fault.StorageImageFault.TheVariants.{Length, Width}
use Rattle.ent_storage.specs.declared.image_fault.StorageImageFault.TheVariants.{Entity}
use Rattle.ent_storage.specs.declared.image_fault.StorageImageFault.TheVariants.{Memory}

-- The bytes begin with those of that many entities, the first ones, after a possible width. They
-- determine what is left.
pub record AreFirst (handles : List Handle) (bytes : List ℕ) (count : ℕ) : Type 0 where
  pub width : ℕ
  pub few : width ≤ 256
  pub entities : EntityMap
  pub stored : (h : Handle) → Contains (take count handles) h → IsStored entities h
  pub beyond : (h : Handle) → Contains (take count handles) h → (id : ComponentId) → width ≤ id.0
      → value_of entities h id ≡ None
  pub left : List ℕ
  pub spelled : bytes
      ≡ word width ++ (flat_map (entity_bytes width entities) (take count handles) ++ left)

-- they begin with a width that there may be
pub record HasWidth (bytes : List ℕ) : Type 0 where
  pub width : ℕ
  pub few : width ≤ 256
  pub rest : List ℕ
  pub spelled : bytes ≡ word width ++ rest

-- no entity of this handle is written in their first bytes
abbrev pub IsNoEntity : ℕ → List ℕ → Handle → Type 0
IsNoEntity width bytes h = (m : EntityMap) (rest : List ℕ) → IsStored m h
    → bytes ≢ entity_bytes width m h ++ rest

-- Too few bytes for a width, or bytes behind the entities; an impossible width, or not that of the
-- entities; or, after that many entities, bytes that are no entity's.
abbrev pub HasFault : List Handle → List ℕ → StorageImageFault → Type 0
HasFault handles bytes Length =
    (length bytes < 4) ⊎ ((all : AreFirst handles bytes (length handles)) × (all.left ≢ []))
HasFault handles bytes (Width number) =
    ((256 < number) × (number < 2 ^ 32) × ((rest : List ℕ) × (bytes ≡ word number ++ rest)))
    ⊎ ((all : AreFirst handles bytes (length handles)) × (all.left ≡ [])
    × (all.width ≡ number) × (width all.entities handles ≢ number))
HasFault handles bytes (Entity place) =
    (place < length handles) × ((first : AreFirst handles bytes place)
    × HoldsAt (IsNoEntity first.width first.left) handles place)
HasFault handles bytes Memory = ⊥
