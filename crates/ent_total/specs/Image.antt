-- The image of a world of the package: that of its world, and how many entities `spawn` made since
-- the last flush.
use Rattle.std.specs.Prelude.{◌≡◌, ℕ, ◌-◌, ◌<◌, List, ◌++◌, length, take}
use Rattle.ent_alloc.specs.Within.{slots_after_flush}
use Rattle.ent_handle.specs.Bytes.{word}
use Rattle.ent_world.specs.World.{World}
use Rattle.ent_world.specs.Image.{image as world_image, HasImage}
use Rattle.ent_world.specs.declared.image_fault.WorldImageFault.{WorldImageFault}
use Rattle.ent_world.specs.declared.image_fault.WorldImageFault.TheVariants.{Bound}
use Rattle.ent_total.specs.declared.world.World.{World as Numbered}

-- the image of the world, and the number in four bytes
abbrev pub image : World → ℕ → List ℕ
image w spawned = world_image w ++ word spawned

-- the bytes of the world alone
abbrev pub before_count : List ℕ → List ℕ
before_count bytes = take (length bytes - 4) bytes

-- the bytes are an image, and it is refused for the bound by this fault
abbrev pub IsBeyond : List ℕ → ℕ → WorldImageFault → Type 0
IsBeyond bytes most fault =
    (w : World) × (spawned : ℕ) × HasImage w × (image w spawned ≡ bytes)
    × (most < slots_after_flush w.allocator) × (fault ≡ Bound (slots_after_flush w.allocator))

-- the bytes are the image of this world, which has this number
pub record IsReadFrom (bytes : List ℕ) (number : ℕ) (w : Numbered) : Type 0 where
  pub image_is : image w.world w.spawned ≡ bytes
  pub has_image : HasImage w.world
  pub number_is : w.number ≡ number
