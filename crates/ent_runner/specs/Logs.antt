-- Systems that fill logs: they run on workers, each with a log of its own, over one shared
-- allocator.
use Rattle.std.specs.Prelude.{◌≡◌, ℕ, ◌<◌, ◌==◌, List, [], ◌++◌, length, filter}
use Rattle.std.specs.Prelude.{Option, slice_get, slice_index_or, Some}
use Rattle.std.specs.List.{All, flat_map}
use Rattle.ent_handle.specs.Handle.{Handle}
use Rattle.ent_alloc.specs.Limits.{quota}
use Rattle.ent_alloc.specs.Sequential.{Allocator, after_flush, born}
use Rattle.ent_alloc.specs.History.{Call, IsLegal, after_history, given_in}
use Rattle.ent_log.specs.declared.entry.Entry.{Entry}
use Rattle.ent_log.specs.Logs.{spawned_in, entries_of}
use Rattle.ent_alloc.specs.Serving.{Request}
use Rattle.ent_queue.specs.Logging.{request_of}
use Rattle.ent_runner.specs.Frame.{requests_by}
use Rattle.ent_runner.specs.Runs.{AreRun, StopShort}
use Rattle.ent_shared.specs.Requests.{stands_for, FitQuota}

-- the handles that one caller was given in a history, in order
abbrev pub given_to : ℕ → List Call → List Handle
given_to caller history = given_in (filter (λ (call : Call). call.caller == caller) history)

module _ {C : Type 0} where
  -- the log of a system
  abbrev pub log_at : List (List (Entry C)) → ℕ → List (Entry C)
  log_at logs system = slice_index_or logs system []

  -- the entries of these systems, one log after the other
  abbrev pub entries_by : List (List (Entry C)) → List ℕ → List (Entry C)
  entries_by logs systems = flat_map (log_at logs) systems

  -- the requests that these entries represent
  abbrev pub requests_in : List (Entry C) → List Request
  requests_in entries = flat_map request_of entries

  -- the system of this number may enter this in its log
  abbrev pub SystemMayLog : {S : Type 0} → (S → List (Entry C) → Type 0) → List S → ℕ
      → List (Entry C) → Type 0
  SystemMayLog {S} may systems n log =
      (system : S) → slice_get systems n ≡ Some system → may system log

  -- it may leave this in its log, and return this error
  abbrev pub SystemMayLeave : {S E : Type 0} → (S → List (Entry C) → E → Type 0) → List S → ℕ
      → List (Entry C) → E → Type 0
  SystemMayLeave leave systems n log error =
      SystemMayLog (λ system log. leave system log error) systems n log

  -- That many workers ran the first systems, each once, and filled these logs. The history has what
  -- they reserved, and leads from the one allocator to the other. The calls of each worker are
  -- exactly those that the spawns and refusals of its systems' logs represent, in order. So it was
  -- given the handles that these spawns returned.
  pub record HaveRun (workers count : ℕ) (before : Allocator) (logs : List (List (Entry C)))
      (after : Allocator) : Type 0 where
    -- all reservations of the workers, in one order
    pub history : List Call
    pub legal : IsLegal before history
    pub after_is : after ≡ after_history before history
    pub callers : All (λ (call : Call). call.caller < workers) history
    -- Also a call that was refused requested one handle: no others used the pool up.
    pub one_each : All (λ (call : Call). call.requested ≡ 1) history
    -- for each worker the systems that it ran
    pub ran : List (List ℕ)
    pub run : AreRun workers count ran
    pub calls : (worker : ℕ) (mine : List ℕ) → slice_get ran worker ≡ Some mine
        → requests_by worker history ≡ flat_map stands_for (requests_in (entries_by logs mine))
    -- The quota refused a spawn only if the worker had used it up.
    pub within : (worker : ℕ) (mine : List ℕ) → slice_get ran worker ≡ Some mine
        → FitQuota quota (requests_in (entries_by logs mine))
    pub given : (worker : ℕ) (mine : List ℕ) → slice_get ran worker ≡ Some mine
        → given_to worker history ≡ spawned_in (entries_by logs mine)
    pub each_log : length logs ≡ count

  -- All systems have run, and each has a log that it may fill so.
  pub record HaveLogged {S : Type 0} (may : S → List (Entry C) → Type 0) (systems : List S)
      (workers : ℕ) (before : Allocator) (logs : List (List (Entry C))) (after : Allocator)
      : Type 0 where
    pub run : HaveRun workers (length systems) before logs after
    pub each_system : (n : ℕ) (system : S) → slice_get systems n ≡ Some system
        → may system (log_at logs n)

  -- Some systems have run, at least one if there are any, and the workers stopped, with this error
  -- if one of them returned one. A log is what the system had entered when it ended or stopped.
  pub record IsBrokenOff {S E : Type 0} (may : S → List (Entry C) → Type 0)
      (leave : S → List (Entry C) → E → Type 0) (systems : List S) (workers : ℕ)
      (before after : Allocator) (error : Option E) : Type 0 where
    pub count : ℕ
    pub logs : List (List (Entry C))
    pub run : HaveRun workers count before logs after
    -- the error that each of them returned, if it did
    pub errors : List (Option E)
    pub short : StopShort (SystemMayLog may systems) (SystemMayLeave leave systems) logs [] errors
        (length systems) count run.ran error

  -- All systems have run, and each filled a log that it may fill so. The flush brought to life what
  -- they had reserved, and listed it behind what was in the list. The entries are those of all
  -- logs, one log after the other.
  pub record HaveBegun {S : Type 0} (may : S → List (Entry C) → Type 0) (systems : List S)
      (workers : ℕ) (before : Allocator) (listed : List Handle) (entries : List (Entry C))
      (after : Allocator) (list : List Handle) : Type 0 where
    pub logs : List (List (Entry C))
    pub filled : Allocator
    pub logged : HaveLogged may systems workers before logs filled
    pub entries_are : entries ≡ entries_of logs
    pub after_is : after ≡ after_flush filled
    pub list_is : list ≡ listed ++ born filled
