-- Which systems workers have run, and how far the systems came if they were broken off.
use Rattle.std.specs.Prelude.{◌≡◌, ℕ, ◌<◌, ◌≤◌, List, [], ◌∷◌, length, slice_get, slice_index_or}
use Rattle.std.specs.Prelude.{Option, Some, None}
use Rattle.std.specs.List.{All, AllPairs, flat_map, range_with_len}
use Rattle.std.specs.List.Sorted.{IsPermutation}

-- For each worker the systems that it ran, in ascending order of number: together they are the
-- first ones, each once.
pub record AreRun (workers count : ℕ) (ran : List (List ℕ)) : Type 0 where
  pub each_worker : length ran ≡ workers
  pub once : IsPermutation (flat_map (λ mine. mine) ran) (range_with_len 0 count)
  pub rising : All (AllPairs (λ m n. m < n)) ran

-- the first of these that there is
abbrev pub first_some : {X : Type 0} → List (Option X) → Option X
first_some [] = None
first_some (None ∷ more) = first_some more
first_some (Some x ∷ more) = Some x

module _ {O E : Type 0} (may : ℕ → O → Type 0) (leave : ℕ → O → E → Type 0) (outputs : List O)
    (empty : O)
    (errors : List (Option E)) where
  -- what the system of this number had added when it ended or stopped
  abbrev of_system : ℕ → O
  of_system system = slice_index_or outputs system empty

  -- the error that it returned, if it did
  abbrev error_of : ℕ → Option E
  error_of system = slice_index_or errors system None

  -- It ended as it may, or returned this error and left its output so.
  abbrev pub HasReturned : ℕ → Option E → Type 0
  HasReturned n None = may n (of_system n)
  HasReturned n (Some error) = leave n (of_system n) error

  -- The workers have run the first ones of that many systems, at least one if there are any, and
  -- stopped. With this error, if there is one.
  pub record StopShort (systems count : ℕ) (ran : List (List ℕ)) (error : Option E) : Type 0 where
    pub within : count ≤ systems
    pub some : 0 < systems → 0 < count
    pub each_output : length outputs ≡ count
    pub each_error : length errors ≡ count
    pub each_system : (n : ℕ) → n < count → HasReturned n (error_of n)
    -- A worker ran a system after another one only if that one had returned no error.
    pub ended : (worker : ℕ) (mine : List ℕ) → slice_get ran worker ≡ Some mine
        → AllPairs (λ earlier later. error_of earlier ≡ None) mine
    -- The error is the first one in the order of the systems. Without one, some are left that no
    -- worker has room for. If some are left, each worker has run at least one, for whose output it
    -- had room from the beginning.
    pub first : error ≡ first_some errors
    pub left : error ≡ None → count < systems
    pub busy : count < systems → All (λ mine. 0 < length mine) ran
