-- A run of a script in blocks on its way. Only private contracts and proofs use this.
use Rattle.std.specs.Prelude.{◌≡◌, ℕ, List, [], ◌++◌, Option, length}
use Rattle.ent_handle.specs.Handle.{Handle}
use Rattle.ent_handle.specs.declared.memory.Memory.{Memory}
use Rattle.ent_alloc.specs.Sequential.{born}
use Rattle.ent_blocks.specs.Blocks.{Blocks, Reserver, blocks_of}
use Rattle.ent_queue.specs.Command.{Command}
use Rattle.ent_queue.specs.Issuing.{Issues}
use Rattle.ent_world.specs.Sync.{sync}
use Rattle.ent_world.specs.World.{World}
use Rattle.ent_world.specs.declared.fault.Fault.{Fault}
use Rattle.ent_runner.specs.Blocks.{IsBrokenOff}
use Rattle.ent_runner.specs.Frame.{SystemMayIssue, SystemMayLeave, view_of}
use Rattle.ent_script.specs.declared.operation.Operation.{Operation}
use Rattle.spawnrun_lib.specs.Issuing.{MayIssue, MayStop}
use Rattle.spawnrun_lib.specs.ReportInBlocks.{HaveIssued, IsTextFrom, blocks_in, reserved_in}
use Rattle.spawnrun_lib.specs.declared.show.Show.{Show}

-- A frame whose blocks have these sizes ended so.
pub record EndsInBlocks (sizes : List ℕ) (systems : List (List Operation)) (w : World)
    (queues : List (List Command)) (after : World) (came : List Handle) (faults : List Fault)
    : Type 0 where
  pub issued : HaveIssued systems w (blocks_in sizes w) queues
  pub world : after ≡ (sync queues (reserved_in sizes w queues)).world
  pub born_are : came ≡ born (reserved_in sizes w queues).allocator
  pub faults_are : faults ≡ (sync queues (reserved_in sizes w queues)).faults

-- A frame whose blocks have these sizes was broken off on that many workers.
pub record StopsInBlocks (sizes : List ℕ) (systems : List (List Operation)) (workers : ℕ)
    (w : World) : Type 0 where
  pub phase : Blocks
  pub reservers : List Reserver
  pub start : phase.start ≡ w.allocator
  pub blocks : blocks_of reservers ≡ blocks_in sizes w
  pub error : Option Memory
  pub broken_off : IsBrokenOff Issues [] phase (SystemMayIssue MayIssue systems (view_of w))
      (SystemMayLeave (λ system view queue (_ : Memory). MayStop system view queue) systems
      (view_of w)) (length systems) workers reservers error

-- These frames were run from the first world on: whatever text the others have, this one and that
-- are the text of all.
pub record HaveGoneInBlocks (names : List (List ℕ)) (size : ℕ) (show : Show) (first now : World)
    (gone : List (List (List Operation))) (text : List ℕ) : Type 0 where
  pub rest : (frames : List (List (List Operation))) (others : List ℕ)
      → IsTextFrom names size show (length gone) now frames others
      → IsTextFrom names size show 0 first (gone ++ frames) (text ++ others)
