-- A frame: systems run on workers over one shared world, each with a queue of its own, and the sync
-- point applies the queues in the order of the systems.
use Rattle.std.specs.Prelude.{◌≡◌, ℕ, ◌<◌, ◌≤◌, ◌==◌, List, [], length, map, filter}
use Rattle.std.specs.Prelude.{Result, Ok, Err}
use Rattle.std.specs.Prelude.{Option, slice_get, slice_index_or, Some}
use Rattle.std.specs.List.{All, flat_map}
use Rattle.ent_handle.specs.Handle.{Handle}
use Rattle.ent_alloc.specs.declared.space.Space.{Space}
use Rattle.ent_alloc.specs.Limits.{quota}
use Rattle.ent_alloc.specs.Sequential.{available, born}
use Rattle.ent_alloc.specs.History.{Call, IsLegal, after_history}
use Rattle.ent_queue.specs.Command.{Command}
use Rattle.ent_queue.specs.Reserving.{stands_for, FitQuota}
use Rattle.ent_world.specs.World.{World}
use Rattle.ent_world.specs.OpenWorld.{View}
use Rattle.ent_world.specs.Sync.{sync, IsStop, IfStopped}
use Rattle.ent_world.specs.Rest.{HasStoppedSo}
use Rattle.ent_world.specs.declared.fault.Fault.{Fault}
use Rattle.ent_world.specs.declared.fault.SyncFault.{SyncFault}
use Rattle.ent_world.specs.declared.fault.SyncFault.TheVariants as stop
use Rattle.ent_world.specs.declared.fault.SyncReport.{SyncReport}
use Rattle.ent_runner.specs.Runs.{AreRun, StopShort}
use Rattle.ent_runner.specs.declared.frame.report.FrameFault.{FrameFault}
use Rattle.ent_runner.specs.declared.frame.report.FrameFault.TheVariants as frame

-- what systems see of a world
abbrev pub view_of : World → View
view_of w = record { phase = w.phase; entities = w.entities }

-- the world after these calls have reserved from its allocator
abbrev pub reserved_by : List Call → World → World
reserved_by history w = record w { allocator = after_history w.allocator history }

-- the queue of a system
abbrev pub queue_at : List (List Command) → ℕ → List Command
queue_at queues system = slice_index_or queues system []

-- the commands of these systems, one queue after the other
abbrev pub commands_of : List (List Command) → List ℕ → List Command
commands_of queues systems = flat_map (queue_at queues) systems

-- what one caller requested in a history, and the replies
abbrev pub requests_by : ℕ → List Call → List (ℕ × Result (List Handle) Space)
requests_by caller history =
    map (λ (call : Call). (call.requested, call.reply))
    (filter (λ (call : Call). call.caller == caller) history)

-- What a worker has done that ran these systems, one after the other: its calls are the
-- reservations of their queues, and each fitted the quota that the worker had left.
pub record IsWork (queues : List (List Command)) (history : List Call) (worker : ℕ)
    (systems : List ℕ) : Type 0 where
  pub calls : requests_by worker history ≡ flat_map stands_for (commands_of queues systems)
  pub within : FitQuota quota (commands_of queues systems)

-- The queues are what the systems may issue if that many workers run them, and the history has the
-- calls of these workers and no others.
pub record IsFrame {S : Type 0} (may : S → View → List Command → Type 0) (systems : List S)
    (workers : ℕ) (before : World) (queues : List (List Command)) (history : List Call)
    : Type 0 where
  pub legal : IsLegal before.allocator history
  pub callers : All (λ (call : Call). call.caller < workers) history
  -- for each worker the systems that it ran: each system is run once
  pub ran : List (List ℕ)
  pub run : AreRun workers (length systems) ran
  pub work : (worker : ℕ) (mine : List ℕ) → slice_get ran worker ≡ Some mine
      → IsWork queues history worker mine
  -- each system has a queue, which it may issue
  pub count : length queues ≡ length systems
  pub each_system : (n : ℕ) (system : S) → slice_get systems n ≡ Some system
      → may system (view_of before) (queue_at queues n)

-- the system of this number may issue the commands
abbrev pub SystemMayIssue : {S : Type 0} → (S → View → List Command → Type 0) → List S → View → ℕ
    → List Command → Type 0
SystemMayIssue {S} may systems view n queue =
    (system : S) → slice_get systems n ≡ Some system → may system view queue

-- it may leave the commands, and return this error
abbrev pub SystemMayLeave : {S E : Type 0} → (S → View → List Command → E → Type 0) → List S → View
    → ℕ → List Command → E → Type 0
SystemMayLeave leave systems view n queue error =
    SystemMayIssue (λ system view queue. leave system view queue error) systems view n queue

-- A frame that was broken off: that many workers ran some of the systems, and stopped, with this
-- error if one of them returned one. The history has what these systems asked for, and nothing
-- else.
pub record IsBrokenOff {S E : Type 0} (may : S → View → List Command → Type 0)
    (leave : S → View → List Command → E → Type 0) (systems : List S) (workers : ℕ) (before : World)
    (history : List Call) (error : Option E) : Type 0 where
  pub legal : IsLegal before.allocator history
  pub callers : All (λ (call : Call). call.caller < workers) history
  -- for each worker the systems that it ran
  pub ran : List (List ℕ)
  pub count : ℕ
  pub run : AreRun workers count ran
  -- what each of them had issued when it ended or stopped
  pub queues : List (List Command)
  -- the error that each of them returned, if it did
  pub errors : List (Option E)
  pub short : StopShort (SystemMayIssue may systems (view_of before))
      (SystemMayLeave leave systems (view_of before)) queues [] errors (length systems) count ran
      error
  pub work : (worker : ℕ) (mine : List ℕ) → slice_get ran worker ≡ Some mine
      → IsWork queues history worker mine

-- The sync of the queues has been done up to that handle of that command of that system, and no
-- further.
pub record IsHalf (queues : List (List Command)) (before : World) (system command done : ℕ)
    (so_far : SyncReport) (after : World) : Type 0 where
  pub stop : IsStop system command done queues
  pub so : HasStoppedSo system command done queues before after so_far.faults.items
  pub born_are : so_far.born.items ≡ born before.allocator

-- The frame ends with this world and this report.
pub record Ends {S : Type 0} (may : S → View → List Command → Type 0) (systems : List S)
    (workers : ℕ) (before : World) (queues : List (List Command)) (after : World)
    (came : List Handle) (faults : List Fault) : Type 0 where
  -- all reservations of the workers, in one order
  pub history : List Call
  pub frame : IsFrame may systems workers before queues history
  pub world : after ≡ (sync queues (reserved_by history before)).world
  pub born_are : came ≡ born (after_history before.allocator history)
  pub faults_are : faults ≡ (sync queues (reserved_by history before)).faults

-- a reservation of the first worker
abbrev pub first_call : ℕ × Result (List Handle) Space → Call
first_call request = record { caller = 0; requested = request.0; reply = request.1 }

-- the reservations of all queues, one queue after the other
abbrev pub calls_in_order : List (List Command) → List Call
calls_in_order queues = map first_call (flat_map stands_for (flat_map (λ queue. queue) queues))

-- With one worker the reservations are in the order of the systems. So what the frame ends with
-- follows from the queues.
pub record EndsInOrder (before : World) (queues : List (List Command)) (after : World)
    (came : List Handle) (faults : List Fault) : Type 0 where
  pub legal : IsLegal before.allocator (calls_in_order queues)
  pub world : after ≡ (sync queues (reserved_by (calls_in_order queues) before)).world
  pub born_are : came ≡ born (after_history before.allocator (calls_in_order queues))
  pub faults_are : faults ≡ (sync queues (reserved_by (calls_in_order queues) before)).faults

-- The world as it was, but that handles were requested from its allocator. All that there was to
-- give is reserved, passed over or left, in its order: what was asked for is reserved as long as
-- there was enough, else nothing is left.
pub record IsLost (before after : World) : Type 0 where
  pub phase : after.phase ≡ before.phase
  pub entities : after.entities ≡ before.entities
  pub limits : after.allocator.limits ≡ before.allocator.limits
  pub live : after.allocator.live ≡ before.allocator.live
  pub made : after.allocator.made ≡ before.allocator.made
  pub available : available after.allocator ≡ before.allocator.pool
  pub enough : after.allocator.asked ≤ length before.allocator.pool
      → (length after.allocator.taken ≡ after.allocator.asked) × (after.allocator.aside ≡ [])
  pub short : length before.allocator.pool < after.allocator.asked → after.allocator.pool ≡ []

-- The systems ran, and the sync point stopped and left this world.
pub record StopsAt {S : Type 0} (may : S → View → List Command → Type 0) (systems : List S)
    (workers : ℕ) (before : World) (queues : List (List Command)) (after : World)
    (fault : SyncFault) : Type 0 where
  pub history : List Call
  pub frame : IsFrame may systems workers before queues history
  pub flush_memory : fault ≡ stop.FlushMemory → after ≡ reserved_by history before
  pub memory : (system command done : ℕ) (so_far : SyncReport)
      → fault ≡ stop.Memory system command done so_far
      → IsHalf queues (reserved_by history before) system command done so_far after

-- what holds of a frame whose sync point stopped
abbrev pub IfSyncStopped : {X E : Type 0} → Result X (FrameFault E)
    → (SyncFault → List (List Command) → Type 0) → Type 0
IfSyncStopped (Ok x) P = Unit {0}
IfSyncStopped (Err frame.Memory) P = Unit {0}
IfSyncStopped (Err (frame.Lost error)) P = Unit {0}
IfSyncStopped (Err (frame.Sync fault queues)) P = P fault queues.items

-- what holds of one whose sync point stopped at a command
abbrev pub IfStoppedAt : {X E : Type 0} → Result X (FrameFault E)
    → (ℕ → ℕ → ℕ → SyncReport → List (List Command) → Type 0) → Type 0
IfStoppedAt {X} result P = IfSyncStopped result (λ fault queues.
    IfStopped {X = X} (Err fault) (λ system command done so_far.
    P system command done so_far queues))

-- what holds of a frame that was broken off, with this error if there is one
abbrev pub IfLost : {X E : Type 0} → Result X (FrameFault E) → (Option E → Type 0) → Type 0
IfLost (Ok x) P = Unit {0}
IfLost (Err frame.Memory) P = Unit {0}
IfLost (Err (frame.Lost error)) P = P error
IfLost (Err (frame.Sync fault queues)) P = Unit {0}
