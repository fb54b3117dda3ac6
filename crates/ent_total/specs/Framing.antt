-- What holds of a frame that wasn't completed.
use Rattle.std.specs.Prelude.{◌≡◌, ◌<◌, ℕ, List, Option, length}
use Rattle.ent_alloc.specs.History.{Call}
use Rattle.ent_runner.specs.Frame.{IsBrokenOff, IsLost, StopsAt, reserved_by}
use Rattle.ent_queue.specs.Command.{Command}
use Rattle.ent_world.specs.Memory.{TakesMemoryAt}
use Rattle.ent_world.specs.OpenWorld.{View}
use Rattle.ent_world.specs.declared.fault.SyncFault.{SyncFault}
use Rattle.ent_world.specs.declared.fault.SyncFault.TheVariants as fault
use Rattle.ent_total.specs.Batch.{Queues}
use Rattle.ent_total.specs.declared.frame_error.FrameError.{FrameError}
use Rattle.ent_total.specs.declared.frame_error.FrameError.TheVariants as frame
use Rattle.ent_total.specs.declared.world.World.{World}

-- How many are counted after a sync point that stopped like this: none if it had flushed.
abbrev pub spawned_after : SyncFault → ℕ → ℕ
spawned_after fault.FlushMemory spawned = spawned
spawned_after (fault.Memory system command done so_far) spawned = 0

module _ {S E : Type 0} (may : S → View → List Command → Type 0)
    (leave : S → View → List Command → E → Type 0) (systems : List S) (workers : ℕ) where
  -- What is left of a frame that was broken off, with this error if a system returned one.
  pub record AreBrokenOff (before after : World) (error : Option E) : Type 0 where
    pub history : List Call
    pub broken_off : IsBrokenOff may leave systems workers before.world history error
    pub reserved : after.world ≡ reserved_by history before.world
    pub still : IsLost before.world after.world
    pub some : 0 < length systems
    pub counted : after.spawned ≡ before.spawned

  -- What holds if all systems ran, and the sync point stopped.
  pub record IsHeld (before after : World) (why : SyncFault) (queues : Queues) : Type 0 where
    pub stops : StopsAt may systems workers before.world queues.queues after.world why
    pub of_world : queues.world ≡ before.number
    pub counted : after.spawned ≡ spawned_after why before.spawned

  -- A frame of these systems left this, for this reason.
  abbrev pub IsLeft : World → World → FrameError E → Type 0
  IsLeft before after frame.NeedsFlush = after ≡ before
  IsLeft before after frame.Workers = after ≡ before
  IsLeft before after frame.Systems = after ≡ before
  IsLeft before after frame.Memory = (after ≡ before) × (0 < length systems)
  IsLeft before after (frame.Lost error) = AreBrokenOff before after error
  IsLeft before after (frame.Unapplied queues) =
      IsHeld before after fault.FlushMemory queues × (0 < length after.world.allocator.taken)
  IsLeft before after (frame.Stopped stopped) =
      IsHeld before after (fault.Memory stopped.stop.system stopped.stop.command stopped.stop.done
      stopped.so_far) stopped.queues × (after.world.allocator.asked ≡ 0)
      × TakesMemoryAt after.world stopped.stop.system stopped.stop.command stopped.stop.done
      stopped.queues.queues
