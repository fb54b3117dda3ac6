-- The image of a world: the bytes that represent it. It says everything about the world, and
-- nothing about how it got into that state or where its entities are in memory.
use Rattle.std.specs.Prelude.{ℕ, ◌+◌, ◌*◌, ◌^◌, ◌<◌, ◌≤◌, List, [], ◌∷◌, ◌++◌, length}
use Rattle.std.specs.FinMap as map
use Rattle.std.specs.FinSet as set
use Rattle.ent_handle.specs.Handle.{Handle}
use Rattle.ent_alloc.specs.Entities.{Entities}
use Rattle.ent_alloc.specs.Image.{image as allocator_image}
use Rattle.ent_handle.specs.Bytes.{word, long}
use Rattle.ent_storage.specs.Image.{entities_bytes, AreStored}
use Rattle.ent_world.specs.World.{World, IsWorld}

-- its allocator, without rows
abbrev pub allocator_of : World → Entities
allocator_of w = record { allocator = w.allocator; rows = map.empty }

-- its living entities, in slot order
abbrev pub living : World → List Handle
living w = map.keys w.entities

-- FORGENW and a zero
abbrev pub magic : List ℕ
magic = 70 ∷ 79 ∷ 82 ∷ 71 ∷ 69 ∷ 78 ∷ 87 ∷ 0 ∷ []

-- the version of this format
abbrev pub version : ℕ
version = 1

-- 28 bytes: what they are an image of, how often the world was flushed, and how many bytes its
-- allocator has
unfoldable pub header_bytes : ℕ → ℕ → List ℕ
header_bytes phase len = magic ++ (word version ++ (long phase ++ long len))

-- a part of that many bytes, and what follows it
abbrev pub framed : ℕ → List ℕ → List ℕ → List ℕ
framed phase part rest = header_bytes phase (length part) ++ (part ++ rest)

abbrev pub image : World → List ℕ
image w = framed w.phase (allocator_image (allocator_of w)) (entities_bytes w.entities (living w))

-- that many bytes hold its image, whatever components its entities have
abbrev pub most : World → ℕ
most w = 72 + 12 * w.allocator.made + 2320 * set.len w.allocator.live

-- and at least that many bytes are in it
abbrev pub least : World → ℕ
least w = 72 + 12 * w.allocator.made + 16 * length (living w)

-- What is true of every world. Each of them has an image, and no two have the same.
pub record HasImage (w : World) : Type 0 where
  pub world : IsWorld w
  pub asked : w.allocator.asked ≤ 2 ^ 50
  pub phase : w.phase < 2 ^ 64
  pub stored : AreStored w.entities (living w)
