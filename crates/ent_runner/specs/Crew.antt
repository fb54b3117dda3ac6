-- What a crew does: jobs with numbers, each with what its worker lends to it, and with one output.
pub mod Record
pub mod Rule
pub mod Claims
pub mod Worker
pub mod Collecting
use Rattle.std.specs.Prelude.{◌≡◌, ℕ, ◌<◌, ◌≤◌, List, [], ◌∷◌, ◌++◌, length, slice_get, Some}
use Rattle.std.specs.Prelude.{◌⊎◌, ◌-◌, Option, None, map, replicate}
use Rattle.std.specs.List.{All, FoldsTo}
use Rattle.ent_runner.specs.Runs.{AreRun}

-- for how many jobs there is room, and how many workers do them
pub record Crew : Type 0 where
  pub jobs : ℕ
  pub workers : ℕ

-- what holds of each worker: the numbers of its jobs, and what it lends, before and after
abbrev pub OfEach : {L : Type 0} → List (List ℕ) → List L → List L → (List ℕ → L → L → Type 0)
    → Type 0
OfEach {L} ran before after P = (worker : ℕ) (mine : List ℕ) (a b : L)
    → slice_get ran worker ≡ Some mine → slice_get before worker ≡ Some a
    → slice_get after worker ≡ Some b → P mine a b

module _ {O E L : Type 0} where
  -- The job of this number made this output and returned no error, and did what it may.
  abbrev pub Ended : (ℕ → L → O → L → Type 0) → ℕ → L → O × Option E → L → Type 0
  Ended may number before made after = (made.1 ≡ None) × may number before made.0 after

  -- It made this output, returned this error, and left both as it may.
  abbrev pub Stopped : (ℕ → L → O → E → L → Type 0) → ℕ → L → O × Option E → L → Type 0
  Stopped leave number before made after =
      (error : E) × (made.1 ≡ Some error) × leave number before made.0 error after

module _ {O L : Type 0} where
  -- what the job of this number may do, whose output is the one at its number
  abbrev pub DoesAt : (ℕ → L → O → L → Type 0) → List O → L → ℕ → L → Type 0
  DoesAt may outputs before number after =
      (output : O) × (slice_get outputs number ≡ Some output) × may number before output after

  -- these jobs were done, one after the other
  abbrev pub DidAll : (ℕ → L → O → L → Type 0) → List O → L → List ℕ → L → Type 0
  DidAll may outputs before numbers after = FoldsTo (DoesAt may outputs) before numbers after

  -- These jobs were done, one after the other, and the last one stopped.
  pub record DidUntil (may leave : ℕ → L → O → L → Type 0) (outputs : List O)
      (before : L) (numbers : List ℕ) (after : L) : Type 0 where
    pub earlier : List ℕ
    pub last : ℕ
    pub numbers_are : numbers ≡ earlier ++ last ∷ []
    pub between : L
    pub ended : DidAll may outputs before earlier between
    pub stopped : DoesAt leave outputs between last after

  -- Workers that lent this have done all jobs, each once, and have that back. The outputs are in
  -- the order of the jobs.
  pub record AreDone (may : ℕ → L → O → L → Type 0) (jobs : ℕ) (before : List L)
      (outputs : List O) (after : List L) : Type 0 where
    -- for each worker the jobs that it did
    pub ran : List (List ℕ)
    pub run : AreRun (length before) jobs ran
    pub count : length outputs ≡ jobs
    pub did : OfEach ran before after (λ mine a b. DidAll may outputs a mine b)

  -- The workers have done some of the jobs, and stopped. The outputs are left.
  pub record AreBrokenOff (may leave : ℕ → L → O → L → Type 0) (jobs : ℕ)
      (before : List L) (left : List (Option O)) (after : List L) : Type 0 where
    -- for each worker the jobs that it did, at least one if there are any
    pub ran : List (List ℕ)
    pub count : ℕ
    pub run : AreRun (length before) count ran
    pub within : count ≤ jobs
    pub some : 0 < jobs → 0 < count
    -- what each of them had made when it ended or stopped
    pub outputs : List O
    pub each_output : length outputs ≡ count
    -- Each is left at the number of its job.
    pub left_are : left ≡ map Some outputs ++ replicate (jobs - count) None
    -- A worker did a job after another one only if that one had ended.
    pub did : OfEach ran before after (λ mine a b. DidAll may outputs a mine b
        ⊎ DidUntil may leave outputs a mine b)
    -- Why: the last job of a worker stopped, or some are left that no worker has room for. If some
    -- are left, each worker has done at least one, for whose output it had room from the beginning.
    pub why : ((worker : ℕ) × (mine : List ℕ) × (a : L) × (b : L)
        × (slice_get ran worker ≡ Some mine) × (slice_get before worker ≡ Some a)
        × (slice_get after worker ≡ Some b) × DidUntil may leave outputs a mine b)
        ⊎ (count < jobs)
    pub busy : count < jobs → All (λ mine. 0 < length mine) ran
