-- For private contracts and proofs: what one worker of a crew has done, and all of them.
use Rattle.std.specs.Prelude.{◌≡◌, ◌<◌, ◌≤◌, ℕ, List, [], ◌∷◌, ◌++◌, length, map, replicate, None}
use Rattle.std.specs.Prelude.{true, false, Option, ◌⊎◌, vec_len, vec_capacity, slice_index_or}
use Rattle.std.proofs.Common.{Vec, Global}
use Rattle.std.specs.List.{All, Any, FoldsTo, flat_map, range_with_len}
use Rattle.std.specs.List.Sorted.{IsPermutation}
use Rattle.ent_runner.specs.Crew.Claims.{Claims, Claimer, IsClaimerOf}
use Rattle.ent_runner.specs.declared.crew.worker.Done.{Done}
use Rattle.ent_runner.specs.declared.crew.worker.Worker.{Worker}

-- It has claimed nothing yet.
abbrev pub IsUnused : Claimer → Type 0
IsUnused c = (c.own.claims ≡ []) × (c.own.ended ≡ false)

module _ {O : Type 0} where
  -- the numbers of the jobs that were done
  abbrev pub numbers_of : List (Done O) → List ℕ
  numbers_of done = map (λ (d : Done O). d.number) done

  -- a list of outputs that is empty, with room for one
  pub record IsRoomForOne (list : Vec (Done O) Global) : Type 0 where
    pub empty : list.items ≡ []
    pub one : 0 < vec_capacity list

  -- It has claimed and done nothing yet, and has room for the output of its first job.
  pub record IsNewWorker (w : Worker O) : Type 0 where
    pub unused : IsUnused w.claimer
    pub room : IsRoomForOne w.done

  -- Why a worker claims no more although none of its jobs stopped: it found none left, or it has
  -- done some, and there is no room for another output.
  abbrev pub IsThrough : Worker O → Type 0
  IsThrough w = (w.claimer.own.ended ≡ true)
      ⊎ ((0 < length w.done.items) × (vec_capacity w.done ≤ vec_len w.done))

  module _ {L : Type 0} where
    -- one job, as it was kept
    abbrev pub DoesKept : (ℕ → L → O → L → Type 0) → L → Done O → L → Type 0
    DoesKept may before d after = may d.number before d.output after

    -- these jobs were done, one after the other
    abbrev pub HaveEnded : (ℕ → L → O → L → Type 0) → L → List (Done O) → L → Type 0
    HaveEnded may before done after = FoldsTo (DoesKept may) before done after

    -- and the last one stopped
    pub record HasStoppedAt (may leave : ℕ → L → O → L → Type 0) (before : L)
        (done : List (Done O)) (after : L) : Type 0 where
      pub earlier : List (Done O)
      pub last : Done O
      pub done_are : done ≡ earlier ++ last ∷ []
      pub between : L
      pub ended : HaveEnded may before earlier between
      pub stopped : DoesKept leave between last after

    -- It has done all that it claimed, until none was left, or there was no room for another
    -- output, or the last of them stopped. It lent this, and has that now.
    pub record HasWorked (may leave : ℕ → L → O → L → Type 0) (may_have : L → Type 0)
        (claims : Claims) (before after : L) (w : Worker O) : Type 0 where
      pub lent : may_have after
      pub claimer : IsClaimerOf claims w.claimer
      pub claimed : numbers_of w.done.items ≡ w.claimer.own.claims
      pub ended : w.stopped ≡ false → HaveEnded may before w.done.items after
      pub through : w.stopped ≡ false → IsThrough w
      pub stopped : w.stopped ≡ true → HasStoppedAt may leave before w.done.items after

    -- These workers can begin, each with something to lend of its own: there is at least one, and
    -- each has claimed and done nothing yet.
    pub record AreReady (may_have : L → Type 0) (claims : Claims) (lent : List L)
        (team : List (Worker O)) : Type 0 where
      pub some : 0 < length team
      pub count : length lent ≡ length team
      pub own : All may_have lent
      pub each : All (λ (w : Worker O). IsClaimerOf claims w.claimer × IsNewWorker w) team

    -- Each of these workers has worked.
    pub record HaveAllWorked (may leave : ℕ → L → O → L → Type 0) (may_have : L → Type 0)
        (claims : Claims) (before after : List L) (team : List (Worker O)) : Type 0 where
      pub count : length team ≡ length before
      pub lent : length after ≡ length before
      pub each : (k : ℕ) (d e : L) (f : Worker O) → k < length before
          → HasWorked may leave may_have claims (slice_index_or before k d)
          (slice_index_or after k e) (slice_index_or team k f)

  -- the same of one worker without what its jobs may do
  pub record HasClaimed (claims : Claims) (w : Worker O) : Type 0 where
    pub claimer : IsClaimerOf claims w.claimer
    pub claimed : numbers_of w.done.items ≡ w.claimer.own.claims
    pub through : w.stopped ≡ false → IsThrough w
    pub some : w.stopped ≡ true → 0 < length w.done.items

  -- what all workers have done
  abbrev pub all_done : List (Worker O) → List (Done O)
  all_done team = flat_map (λ (w : Worker O). w.done.items) team

  -- Together these workers did the first jobs, each once, and at least one if there are any. If
  -- some are left, each worker did at least one.
  pub record HaveDoneFirst (numbers : ℕ) (team : List (Worker O)) : Type 0 where
    pub count : ℕ
    pub within : count ≤ numbers
    pub some : 0 < numbers → 0 < count
    pub once : IsPermutation (numbers_of (all_done team)) (range_with_len 0 count)
    pub busy : count < numbers → All (λ (w : Worker O). 0 < length w.done.items) team

  -- Why there are no outputs: a job of one of the workers has stopped, or some jobs are left.
  abbrev pub IsLostFor : ℕ → List (Worker O) → Type 0
  IsLostFor numbers team = Any (λ (w : Worker O). w.stopped ≡ true) team
      ⊎ (length (all_done team) < numbers)

  -- The claims are open, the workers are ready for them, and there is room for what they hand back.
  pub record IsRoom {P : Type 0} (claims : Claims) (team : List (Worker O))
      (claimers : Vec Claimer Global) (by_number : List (Option O)) (outputs : Vec P Global)
      : Type 0 where
    pub some : 0 < claims.workers
    pub count : length team ≡ claims.workers
    pub each : All (λ (w : Worker O). IsClaimerOf claims w.claimer × IsNewWorker w) team
    pub claimers_empty : claimers.items ≡ []
    pub claimers_fit : claims.workers ≤ vec_capacity claimers
    pub by_number_empty : by_number ≡ replicate claims.numbers None
    pub outputs_empty : outputs.items ≡ []
    pub outputs_fit : claims.numbers ≤ vec_capacity outputs
