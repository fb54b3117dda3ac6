-- The report of a script: the text of a run of its frames over a world that begins empty.
use Rattle.std.specs.Prelude.{◌≡◌, ℕ, ◌+◌, List, [], ◌∷◌, ◌++◌}
use Rattle.ent_handle.specs.Handle.{Handle}
use Rattle.ent_alloc.specs.History.{Call, after_history}
use Rattle.ent_alloc.specs.Sequential.{born}
use Rattle.ent_queue.specs.Command.{Command}
use Rattle.ent_world.specs.Effects.{Applied}
use Rattle.ent_world.specs.Sync.{sync}
use Rattle.ent_world.specs.World.{World, first_world}
use Rattle.ent_runner.specs.Frame.{IsFrame, reserved_by}
use Rattle.ent_script.specs.Script.{Script}
use Rattle.ent_script.specs.declared.operation.Operation.{Operation}
use Rattle.spawnrun_lib.specs.Issuing.{MayIssue}
use Rattle.spawnrun_lib.specs.declared.show.Show.{Show}
use Rattle.spawnrun_lib.specs.FrameText.{frame_text}
use Rattle.spawnrun_lib.specs.WorldText.{IsWorldText}

-- How a frame went: the queues of its systems, and all reservations in one order.
pub record Execution : Type 0 where
  pub queues : List (List Command)
  pub history : List Call

-- what its sync point has done to the world
abbrev pub synced : World → Execution → Applied
synced w e = sync e.queues (reserved_by e.history w)

-- the handles that it brought to life
abbrev pub born_in : World → Execution → List Handle
born_in w e = born (after_history w.allocator e.history)

-- The frames may go so on that many workers, each from the world that the one before has left.
abbrev pub AreExecutions : ℕ → World → List (List (List Operation)) → List Execution → Type 0
AreExecutions workers w [] [] = Unit {0}
AreExecutions workers w [] (e ∷ executions) = ⊥
AreExecutions workers w (systems ∷ frames) [] = ⊥
AreExecutions workers w (systems ∷ frames) (e ∷ executions) =
    IsFrame MayIssue systems workers w e.queues e.history
    × AreExecutions workers (synced w e).world frames executions

-- the world that they leave
abbrev pub last_world : World → List Execution → World
last_world w [] = w
last_world w (e ∷ executions) = last_world (synced w e).world executions

-- the text of each frame, numbered from here on
abbrev pub frames_text : Show → ℕ → World → List Execution → List ℕ
frames_text show number w [] = []
frames_text show number w (e ∷ executions) =
    frame_text show number (born_in w e) (synced w e).faults
    ++ frames_text show (number + 1) (synced w e).world executions

-- The text is that of the frames, if they went so, and of the world that they leave.
pub record IsReportOf (script : Script) (workers : ℕ) (show : Show) (executions : List Execution)
    (text : List ℕ) : Type 0 where
  pub frames : AreExecutions workers (first_world script.limits) script.frames executions
  pub world_text : List ℕ
  pub world : IsWorldText script.components show
      (last_world (first_world script.limits) executions).entities world_text
  pub is : text ≡ frames_text show 0 (first_world script.limits) executions ++ world_text

-- The frames may have gone so that this is the text.
abbrev pub IsReport : Script → ℕ → Show → List ℕ → Type 0
IsReport script workers show text =
    (executions : List Execution) × IsReportOf script workers show executions text
