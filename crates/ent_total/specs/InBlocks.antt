-- A phase in blocks, as it is opened.
use Rattle.std.specs.Prelude.{◌≡◌, ℕ, List, All, map}
use Rattle.ent_blocks.specs.Blocks.{Block, blocks_from}

-- The blocks have these sizes, one after the other, as far as the pool has so many handles. The
-- reservers are all of the source's, in the order of their blocks, and have requested nothing yet.
pub record HasDealt {S R : Type 0} (blocks_of : S → List Block) (block_of : R → Block)
    (takes : S → List R → Type 0) (fresh : R → Type 0) (pool : ℕ) (sizes : List ℕ) (source : S)
    (reservers : List R) : Type 0 where
  pub blocks : blocks_of source ≡ blocks_from 0 pool sizes
  pub reservers_are : map block_of reservers ≡ blocks_of source
  pub takes_all : takes source reservers
  pub unused : All fresh reservers
