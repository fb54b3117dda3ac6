-- Queues that are applied together, and where their sync point stopped.
use Rattle.std.specs.Prelude.{◌≡◌, ℕ, List, [], ◌++◌, refl}
use Rattle.std.specs.Coded.{Coded, code_by, coded×, coded_ℕ, coded_list}
use Rattle.ent_alloc.specs.Sequential.{born}
use Rattle.ent_queue.specs.Command.{Command}
use Rattle.ent_queue.specs.contracts.queue.CommandQueue as queued
use Rattle.ent_world.specs.contracts.fault.SyncReport as reported
use Rattle.ent_world.specs.World.{World}
use Rattle.ent_world.specs.declared.fault.Fault.{Fault}
use Rattle.ent_world.specs.declared.fault.SyncReport.{SyncReport}
use Rattle.ent_world.specs.Effects.{applied}
use Rattle.ent_world.specs.Memory.{TakesMemoryAt}
use Rattle.ent_world.specs.Rest.{after_left, IsLater, HasStoppedSo}
use Rattle.ent_world.specs.Sync.{sync, sync_until, cut, IsStop}
use Rattle.ent_total.specs.declared.stop.Stop.{Stop}

-- the number of the world, and the queues in the order of their effect
pub record Queues : Type 0 where
  pub world : ℕ
  pub queues : List (List Command)

-- the queues, where they stopped, and the report so far
pub record Stopped : Type 0 where
  pub queues : Queues
  pub stop : Stop
  pub so_far : SyncReport

-- The sync point of the queues was done: the world after it, and what it reports.
pub record IsSynced (queues : List (List Command)) (before after : World) (r : SyncReport)
    : Type 0 where
  pub world : after ≡ (sync queues before).world
  pub flushed : after.allocator.asked ≡ 0
  pub born_are : r.born.items ≡ born before.allocator
  pub faults_are : r.faults.items ≡ (sync queues before).faults

-- It stopped there for lack of memory: all births have taken effect, and exactly the commands
-- before that point.
pub record IsSyncedUntil (s : Stop) (queues : List (List Command)) (before after : World)
    (r : SyncReport) : Type 0 where
  pub stop : IsStop s.system s.command s.done queues
  pub world : after ≡ (sync_until s.system s.command s.done queues before).world
  pub flushed : after.allocator.asked ≡ 0
  pub born_are : r.born.items ≡ born before.allocator
  pub faults_are : r.faults.items
      ≡ (sync_until s.system s.command s.done queues before).faults
  pub memory : TakesMemoryAt after s.system s.command s.done queues

-- What was left of the queues after a stop was done. If the sync point of a world had stopped like
-- this, the whole of it is done now, and the faults before and after the stop are its faults.
pub record IsFinished (s : Stop) (queues : List (List Command)) (before after : World)
    (r : SyncReport) : Type 0 where
  pub world : after
      ≡ (after_left s.system s.command s.done queues (applied before [])).world
  pub flushed : after.allocator.asked ≡ 0
  pub born_are : r.born.items ≡ []
  pub faults_are : r.faults.items
      ≡ (after_left s.system s.command s.done queues (applied before [])).faults
  pub whole_world : (w : World) (earlier : List Fault)
      → HasStoppedSo s.system s.command s.done queues w before earlier
      → after ≡ (sync queues w).world
  pub whole_faults : (w : World) (earlier : List Fault)
      → HasStoppedSo s.system s.command s.done queues w before earlier
      → earlier ++ r.faults.items ≡ (sync queues w).faults

-- It stopped again, there or later. If the sync point of a world had stopped like this, it has now
-- stopped at the later place, with the faults before and after.
pub record IsLeftUntil (s later : Stop) (queues : List (List Command)) (before after : World)
    (r : SyncReport) : Type 0 where
  pub stop : IsStop later.system later.command later.done queues
  pub is_later : IsLater s.system s.command s.done later.system later.command later.done
  pub world : after ≡ (after_left s.system s.command s.done
      (cut later.system later.command later.done queues) (applied before [])).world
  pub flushed : after.allocator.asked ≡ 0
  pub born_are : r.born.items ≡ []
  pub faults_are : r.faults.items ≡ (after_left s.system s.command s.done
      (cut later.system later.command later.done queues) (applied before [])).faults
  pub memory : TakesMemoryAt after later.system later.command later.done queues
  pub whole_world : (w : World) (earlier : List Fault)
      → HasStoppedSo s.system s.command s.done queues w before earlier
      → after ≡ (sync_until later.system later.command later.done queues w).world
  pub whole_faults : (w : World) (earlier : List Fault)
      → HasStoppedSo s.system s.command s.done queues w before earlier
      → earlier ++ r.faults.items
      ≡ (sync_until later.system later.command later.done queues w).faults

-- each is stored as the tuple of its parts
abbrev pub stop_code : Coded Stop
stop_code =
    code_by (ℕ × (ℕ × ℕ)) (coded× coded_ℕ (coded× coded_ℕ coded_ℕ))
    (λ s. (s.system, (s.command, s.done)))
    (λ t. record { system = t.0; command = t.1.0; done = t.1.1 }) (λ _. refl)

abbrev pub queues_code : Coded Queues
queues_code =
    code_by (ℕ × List (List Command)) (coded× coded_ℕ (coded_list queued.the_row.coded))
    (λ q. (q.world, q.queues)) (λ t. record { world = t.0; queues = t.1 }) (λ _. refl)

abbrev pub stopped_code : Coded Stopped
stopped_code =
    code_by (Queues × (Stop × SyncReport))
    (coded× queues_code (coded× stop_code reported.the_row.coded))
    (λ s. (s.queues, (s.stop, s.so_far)))
    (λ t. record { queues = t.0; stop = t.1.0; so_far = t.1.1 }) (λ _. refl)
