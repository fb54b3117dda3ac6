-- For laws: a frame of scripted systems in terms of births alone.
use Rattle.std.specs.Prelude.{◌≡◌, ◌+◌, List, length}
use Rattle.ent_handle.specs.declared.birth.Birth.{Birth}
use Rattle.ent_handle.specs.Handle.{Handle}
use Rattle.ent_alloc.specs.History.{Call, after_history}
use Rattle.ent_alloc.specs.Sequential.{born}
use Rattle.ent_queue.specs.Command.{Command}
use Rattle.ent_world.specs.BirthsAlone.{BirthMap, BirthCommand, births_in, frame_alone}
use Rattle.ent_world.specs.Named.{AreNamedAfter, AreBelow}
use Rattle.ent_world.specs.Sync.{sync}
use Rattle.ent_world.specs.World.{World, IsWorld}
use Rattle.ent_runner.specs.Frame.{reserved_by}
use Rattle.ent_script.specs.declared.operation.Operation.{Operation}
use Rattle.spawnrun_lib.specs.IssuedAlone.{queues_alone}

-- what the systems issue by births in the frame that begins with this world
abbrev pub queues_by_births : World → BirthMap → List (List Operation) → List (List BirthCommand)
queues_by_births w view systems = queues_alone w.phase 0 view systems

-- the world after the sync point of the frame
abbrev pub world_after : World → List (List Command) → List Call → World
world_after w queues history = (sync queues (reserved_by history w)).world

-- The world and the faults after the frame are those that births alone determine, and as many
-- entities are born. The next frame can be described in the same way.
pub record IsFrameAlone (w : World) (queues : List (List Command)) (history : List Call)
    (systems : List (List Operation)) (view : BirthMap) : Type 0 where
  pub name : Handle → Birth
  pub after : AreNamedAfter name (sync queues (reserved_by history w))
      (frame_alone (queues_by_births w view systems) view)
  pub born_are : length (born (after_history w.allocator history))
      ≡ length (births_in (queues_by_births w view systems))
  -- what a world is that begins a frame, with the next number
  pub world : IsWorld (world_after w queues history)
  pub flushed : (world_after w queues history).allocator.asked ≡ 0
  pub phase : (world_after w queues history).phase ≡ w.phase + 1
  pub below : AreBelow (world_after w queues history).phase (world_after w queues history).entities
