-- What the commands of a queue have drawn from the block of the system that filled it.
use Rattle.std.specs.Prelude.{◌≡◌, ℕ, ◌<◌, List, [], ◌∷◌, length, take}
use Rattle.std.specs.List.{sum_by}
use Rattle.ent_handle.specs.Handle.{Handle}
use Rattle.ent_alloc.specs.Sequential.{Allocator, listed}
use Rattle.ent_alloc.specs.declared.refused.Refused.TheVariants.{Space, Quota}
use Rattle.ent_blocks.specs.Blocks.{Block, rest_of, after_use}
use Rattle.ent_blocks.specs.Drawing.{left_of}
use Rattle.ent_queue.specs.Command.{Command, Spawn, SpawnMany, Insert, Remove, Despawn, Refused}

-- how many handles of the block a command has used
abbrev pub used_by : Command → ℕ
used_by (Spawn h items) = 1
used_by (SpawnMany hs items) = length hs
used_by (Insert h items) = 0
used_by (Remove h id) = 0
used_by (Despawn h) = 0
used_by (Refused wanted why) = 0

-- Its handles are the next ones of the block. A refusal says how many were left of it, and that is
-- fewer than were requested.
abbrev pub IsDrawnBy : Allocator → Block → Command → Type 0
IsDrawnBy s b (Spawn h items) = h ∷ [] ≡ take 1 (rest_of s.pool b)
IsDrawnBy s b (SpawnMany hs items) = hs ≡ listed s.made (take (length hs) (rest_of s.pool b))
IsDrawnBy s b (Insert h items) = Unit {0}
IsDrawnBy s b (Remove h id) = Unit {0}
IsDrawnBy s b (Despawn h) = Unit {0}
IsDrawnBy s b (Refused wanted (Space same left)) =
    (same ≡ wanted) × (left ≡ left_of b) × (left < wanted)
IsDrawnBy s b (Refused wanted (Quota left)) = ⊥

-- each command at its turn
abbrev pub AreDrawnBy : Allocator → Block → List Command → Type 0
AreDrawnBy s b [] = Unit {0}
AreDrawnBy s b (c ∷ cs) = IsDrawnBy s b c × AreDrawnBy s (after_use b (used_by c)) cs

-- the block after these commands
abbrev pub after_commands : Block → List Command → Block
after_commands b commands = after_use b (sum_by used_by commands)

-- The handles of these commands are the next ones of the block, in the order of issue, and these
-- alone are used.
pub record Draws (s : Allocator) (before : Block) (commands : List Command) (after : Block)
    : Type 0 where
  pub each : AreDrawnBy s before commands
  pub used : after ≡ after_commands before commands
