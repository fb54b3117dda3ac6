-- Which fault bytes have that are the image of no world: that of the first part that can't be read.
use Rattle.std.specs.Prelude.{◌≡◌, ◌≢◌, ◌⊎◌, ℕ, ◌^◌, ◌<◌, ◌≤◌, List, ◌∷◌, ◌++◌, length}
use Rattle.std.specs.Prelude.{is_some, true, None, Some}
use Rattle.std.specs.List.{All, AllPairs}
use Rattle.std.specs.FinMap as map
use Rattle.std.specs.FinSet as set
use Rattle.ent_handle.specs.Handle.{Handle}
use Rattle.ent_alloc.specs.Entities.{Entities as Allocator}
use Rattle.ent_alloc.specs.Image.{image as allocator_image, HasImage as HasAllocatorImage}
use Rattle.ent_alloc.specs.FirstFault.{first_fault, header_fault}
use Rattle.ent_alloc.specs.declared.image_fault.ImageFault.{ImageFault}
use Rattle.ent_handle.specs.Bytes.{word}
use Rattle.ent_storage.specs.FirstFault.{HasFault as HasStorageFault}
use Rattle.ent_storage.specs.declared.image_fault.StorageImageFault.{StorageImageFault}
use Rattle.ent_world.specs.Rows.{Rows}
use Rattle.ent_world.specs.Image.{magic, version, header_bytes, framed}
use Rattle.ent_world.specs.declared.image_fault.WorldImageFault.{WorldImageFault}
use Rattle.ent_world.specs.declared.image_fault.WorldImageFault.TheVariants.{Magic, Version, Length}
use Rattle.ent_world.specs.declared.image_fault.WorldImageFault.TheVariants.{Entities, Row, Storage}
use Rattle.ent_world.specs.declared.image_fault.WorldImageFault.TheVariants.{Bound, Memory}

-- ---- what can be read

-- the numbers in front, the allocator's part, and what follows it
pub record AreFramed (bytes : List ℕ) : Type 0 where
  pub phase : ℕ
  pub part : List ℕ
  pub rest : List ℕ
  pub phase_fits : phase < 2 ^ 64
  pub len_fits : length part < 2 ^ 64
  pub spelled : bytes ≡ framed phase part rest

-- the numbers in front, but fewer bytes than the allocator's part has
pub record AreCut (bytes : List ℕ) : Type 0 where
  pub phase : ℕ
  pub len : ℕ
  pub rest : List ℕ
  pub phase_fits : phase < 2 ^ 64
  pub len_fits : len < 2 ^ 64
  pub short : length rest < len
  pub spelled : bytes ≡ header_bytes phase len ++ rest

-- the allocator's part too, with its living entities in slot order
pub record HaveAllocator (bytes : List ℕ) : Type 0 where
  pub parts : AreFramed bytes
  pub allocator : Allocator
  pub has_image : HasAllocatorImage allocator
  pub part_is : allocator_image allocator ≡ parts.part
  pub handles : List Handle
  pub rising : AllPairs (λ g h. g.index < h.index) handles
  pub living : set.from_list handles ≡ allocator.allocator.live

-- The slot of the first of these handles that has a row.
pub record IsFirstRow (rows : Rows) (handles : List Handle) (index : ℕ) : Type 0 where
  pub before : List Handle
  pub handle : Handle
  pub after : List Handle
  pub listed : handles ≡ before ++ handle ∷ after
  pub bare : All (λ h. map.get rows h ≡ None) before
  pub has_row : is_some (map.get rows handle) ≡ true
  pub slot : handle.index ≡ index

-- ---- what can't

abbrev pub HasFault : List ℕ → WorldImageFault → Type 0
HasFault bytes Magic = (rest : List ℕ) → bytes ≢ magic ++ rest
HasFault bytes Length = ((rest : List ℕ) × (bytes ≡ magic ++ rest))
    × ((length bytes < 28) ⊎ AreCut bytes)
HasFault bytes (Version number) = (28 ≤ length bytes) × (number < 2 ^ 32) × (number ≢ version)
    × ((rest : List ℕ) × (bytes ≡ magic ++ (word number ++ rest)))
HasFault bytes (Entities fault) =
    (parts : AreFramed bytes) × (first_fault parts.part ≡ Some fault)
HasFault bytes (Row index) =
    (read : HaveAllocator bytes) × IsFirstRow read.allocator.rows read.handles index
HasFault bytes (Storage fault) =
    (read : HaveAllocator bytes) × (read.allocator.rows ≡ map.empty)
    × HasStorageFault read.handles read.parts.rest fault
HasFault bytes (Bound slots) = ⊥
HasFault bytes Memory = ⊥

-- ---- what takes memory

-- the allocator's part has no fault before its slots, and it has slots
pub record MayTakeMemory (bytes : List ℕ) : Type 0 where
  pub parts : AreFramed bytes
  pub faultless : header_fault parts.part ≡ None
  pub slots : 40 < length parts.part

-- ---- for private contracts

-- the fault that the allocator's part has
pub record IsPartFault (part : List ℕ) (fault : WorldImageFault) : Type 0 where
  pub why : ImageFault
  pub named : fault ≡ Entities why
  pub first : first_fault part ≡ Some why

-- a living entity has a row
pub record IsRowFault (rows : Rows) (handles : List Handle) (fault : WorldImageFault) : Type 0 where
  pub index : ℕ
  pub named : fault ≡ Row index
  pub first : IsFirstRow rows handles index

-- the bytes behind the allocator's part have this fault
pub record IsRestFault (handles : List Handle) (rest : List ℕ) (fault : WorldImageFault) :
    Type 0 where
  pub why : StorageImageFault
  pub named : fault ≡ Storage why
  pub first : HasStorageFault handles rest why
