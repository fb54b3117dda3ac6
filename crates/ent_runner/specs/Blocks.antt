-- Systems that fill outputs, each with handles of a block of its own. What comes of it depends on
-- the blocks and on the systems alone: there is no history. Workers appear only in how far the
-- systems came if they were broken off.
pub mod Refusing
use Rattle.std.specs.Prelude.{◌≡◌, ℕ, List, length, Option, slice_get, Some}
use Rattle.ent_alloc.specs.Serving.{Request}
use Rattle.ent_blocks.specs.Blocks.{Blocks, Reserver}
use Rattle.ent_blocks.specs.Drawing.{IsDrawn}
use Rattle.ent_runner.specs.Filling.{IsFilled}
use Rattle.ent_runner.specs.Runs.{AreRun, StopShort}

module _ {O : Type 0} (Adds : O → List Request → O → Type 0) (empty : O) (phase : Blocks)
    (may : ℕ → O → Type 0) where
  -- All systems have run, and each has an output that it may fill so. The block at the system's
  -- place served the requests that the output represents, one after the other, and no others: so
  -- they got its next handles, or were refused since fewer were left.
  pub record HaveFilled (systems : ℕ) (before : List Reserver) (outputs : List O)
      (after : List Reserver) : Type 0 where
    pub each_before : length before ≡ systems
    pub each_output : length outputs ≡ systems
    pub each_after : length after ≡ systems
    pub each_system : (n : ℕ) (output : O) → slice_get outputs n ≡ Some output → may n output
    pub each_block : (n : ℕ) (first : Reserver) (output : O) (last : Reserver)
        → slice_get before n ≡ Some first → slice_get outputs n ≡ Some output
        → slice_get after n ≡ Some last → IsFilled Adds empty (IsDrawn phase) first output last

  -- That many workers have run some of the systems, and stopped, with this error if one of them
  -- returned one.
  pub record IsBrokenOff {E : Type 0} (leave : ℕ → O → E → Type 0) (systems workers : ℕ)
      (before : List Reserver) (error : Option E) : Type 0 where
    -- for each worker the systems that it ran
    pub ran : List (List ℕ)
    pub count : ℕ
    pub run : AreRun workers count ran
    -- what each of them had filled when it ended or stopped
    pub outputs : List O
    -- the error that each of them returned, if it did
    pub errors : List (Option E)
    pub short : StopShort may leave outputs empty errors systems count ran error
    pub each_block : (n : ℕ) (first : Reserver) (output : O) → slice_get before n ≡ Some first
        → slice_get outputs n ≡ Some output
        → (last : Reserver) × IsFilled Adds empty (IsDrawn phase) first output last
