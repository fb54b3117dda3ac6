-- The report of a script whose systems get their handles from blocks. In each frame each system has
-- a block of its own, so the report follows from the script and the size of the blocks: there is no
-- history in it, no order in which systems ran, and no word of workers.
use Rattle.std.specs.Prelude.{◌≡◌, ℕ, ◌+◌, List, [], ◌∷◌, ◌++◌, length, map, slice_get, Some}
use Rattle.ent_alloc.specs.Sequential.{born}
use Rattle.ent_blocks.specs.Blocks.{Block, blocks_from}
use Rattle.ent_queue.specs.Command.{Command}
use Rattle.ent_queue.specs.Drawing.{AreDrawnBy, after_commands}
use Rattle.ent_world.specs.InBlocks.{world_after}
use Rattle.ent_world.specs.Sync.{sync}
use Rattle.ent_world.specs.World.{World, first_world}
use Rattle.ent_runner.specs.Frame.{queue_at, view_of}
use Rattle.ent_script.specs.Script.{Script}
use Rattle.ent_script.specs.declared.operation.Operation.{Operation}
use Rattle.spawnrun_lib.specs.Issuing.{MayIssue}
use Rattle.spawnrun_lib.specs.declared.show.Show.{Show}
use Rattle.spawnrun_lib.specs.FrameText.{frame_text}
use Rattle.spawnrun_lib.specs.WorldText.{IsWorldText}

-- how many handles the block of each system is to have
abbrev pub sizes_of : ℕ → List (List Operation) → List ℕ
sizes_of size systems = map (λ (_ : List Operation). size) systems

-- the blocks of a frame, of these sizes: the front of the pool, in the order of the systems. A
-- block is smaller where the pool ends
abbrev pub blocks_in : List ℕ → World → List Block
blocks_in sizes w = blocks_from 0 (length w.allocator.pool) sizes

-- the blocks after systems have filled these queues
abbrev pub blocks_after : List Block → List (List Command) → List Block
blocks_after [] queues = []
blocks_after (b ∷ blocks) [] = b ∷ blocks
blocks_after (b ∷ blocks) (queue ∷ queues) = after_commands b queue ∷ blocks_after blocks queues

-- Each system has a queue that it may issue, and the handles of its spawns are the next ones of its
-- block.
pub record HaveIssued (systems : List (List Operation)) (w : World) (blocks : List Block)
    (queues : List (List Command)) : Type 0 where
  pub each_queue : length queues ≡ length systems
  pub each_system : (n : ℕ) (system : List Operation) → slice_get systems n ≡ Some system
      → MayIssue system (view_of w) (queue_at queues n)
  pub draws : (n : ℕ) (block : Block) → slice_get blocks n ≡ Some block
      → AreDrawnBy w.allocator block (queue_at queues n)

-- the world after systems in blocks of these sizes have reserved what the queues say
abbrev pub reserved_in : List ℕ → World → List (List Command) → World
reserved_in sizes w queues = world_after w (blocks_after (blocks_in sizes w) queues)

-- the text of the frames, numbered from here on, and of the world that they leave
abbrev pub IsTextFrom : List (List ℕ) → ℕ → Show → ℕ → World → List (List (List Operation)) → List ℕ
    → Type 0
IsTextFrom names size show number w [] text = IsWorldText names show w.entities text
IsTextFrom names size show number w (systems ∷ frames) text = (queues : List (List Command))
    × (rest : List ℕ) × HaveIssued systems w (blocks_in (sizes_of size systems) w) queues
    × IsTextFrom names size show (number + 1)
    (sync queues (reserved_in (sizes_of size systems) w queues)).world frames rest
    × (text ≡ frame_text show number (born (reserved_in (sizes_of size systems) w queues).allocator)
    (sync queues (reserved_in (sizes_of size systems) w queues)).faults ++ rest)

-- The text of a script, which begins without entities, with blocks of this size: it has no other
-- one.
abbrev pub IsTextInBlocks : Script → ℕ → Show → List ℕ → Type 0
IsTextInBlocks script size show text =
    IsTextFrom script.components size show 0 (first_world script.limits) script.frames text
