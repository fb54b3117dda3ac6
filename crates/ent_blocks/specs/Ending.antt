-- What a phase in blocks ends with. For a phase of blocks that go on see `PastEnding`.
use Rattle.std.specs.Prelude.{◌≡◌, ◌≢◌, ◌↔◌, ◌⊎◌, List, map, All, AllPairs, Contains}
use Rattle.ent_handle.specs.Handle.{Handle}
use Rattle.ent_alloc.specs.Sequential.{Allocator, after_flush}
use Rattle.ent_alloc.specs.Sound.{IsLive}
use Rattle.ent_blocks.specs.Blocks.{Blocks, Reserver, Ended, accounted, blocks_of, unused}

-- The phase ended with the reservers of all blocks, in their order: what each of them used is used.
pub record EndsWithAll (phase : Blocks) (reservers : List Reserver) (ended : Ended) : Type 0 where
  pub all : map unused (blocks_of reservers) ≡ phase.blocks
  pub is : ended ≡ record {
    phase = record phase { blocks = blocks_of reservers };
    requested = 0;
  }

-- The phase ended with the reservers of some blocks, in their order. What is left of the others
-- counts as used.
abbrev pub EndsWithSome : Blocks → List Reserver → Ended → Type 0
EndsWithSome phase reservers ended = ended ≡ record {
  phase = record phase { blocks = accounted phase.blocks (blocks_of reservers) };
  requested = 0;
}

-- No handle was taken twice, and none was alive. A flush brings to life exactly what was taken.
pub record TakesAnew (start after : Allocator) : Type 0 where
  pub distinct : AllPairs (λ g h. g ≢ h) after.taken
  pub not_live : All (λ h. ¬ (IsLive start h)) after.taken
  pub brings_to_life : (h : Handle) → IsLive (after_flush after) h
      ↔ (IsLive start h ⊎ Contains after.taken h)
