-- What is left of queues after a stop, and what it does: how a sync point that stopped goes on.
use Rattle.std.specs.Prelude.{◌≡◌, ℕ, ◌+◌, ◌<◌, ◌≤◌, ◌⊎◌, List, [], ◌∷◌, drop}
use Rattle.ent_queue.specs.Command.{Command, Spawn, SpawnMany, Insert, Remove, Despawn, Refused}
use Rattle.ent_world.specs.World.{World}
use Rattle.ent_world.specs.declared.fault.Fault.{Fault}
use Rattle.ent_world.specs.Effects.{Applied, after_commands, after_queues}
use Rattle.ent_world.specs.Sync.{sync_until}

-- The commands without the first handles of the first one; only a spawn of many has several.
abbrev pub last_part : ℕ → List Command → List Command
last_part done [] = []
last_part done (Spawn h items ∷ cs) = Spawn h items ∷ cs
last_part done (SpawnMany hs items ∷ cs) = SpawnMany (drop done hs) items ∷ cs
last_part done (Insert h items ∷ cs) = Insert h items ∷ cs
last_part done (Remove h id ∷ cs) = Remove h id ∷ cs
last_part done (Despawn h ∷ cs) = Despawn h ∷ cs
last_part done (Refused wanted why ∷ cs) = Refused wanted why ∷ cs

-- the commands of a queue from that handle of that command on
abbrev pub left_commands : ℕ → ℕ → List Command → List Command
left_commands command done q = last_part done (drop command q)

-- the rest of the first of these queues, and then the others, each of the next system
abbrev pub after_left_queues : ℕ → ℕ → ℕ → List (List Command) → Applied → Applied
after_left_queues system command done [] a = a
after_left_queues system command done (q ∷ qs) a =
    after_queues (system + 1) qs (after_commands system command (left_commands command done q) a)

-- the queues from that handle of that command of that system on
abbrev pub after_left : ℕ → ℕ → ℕ → List (List Command) → Applied → Applied
after_left system command done queues a =
    after_left_queues system command done (drop system queues) a

-- The second stop in a queue is the first one, or comes after it.
abbrev pub IsLaterIn : ℕ → ℕ → ℕ → ℕ → Type 0
IsLaterIn command done later later_done =
    (command < later) ⊎ ((command ≡ later) × (done ≤ later_done))

-- The same of stops in queues.
abbrev pub IsLater : ℕ → ℕ → ℕ → ℕ → ℕ → ℕ → Type 0
IsLater system command done later later_command later_done =
    (system < later) ⊎ ((system ≡ later) × IsLaterIn command done later_command later_done)

-- The sync of the queues on a world has stopped there: this is the world then, and these the
-- faults.
pub record HasStoppedSo (system command done : ℕ) (queues : List (List Command))
    (before now : World)
    (faults : List Fault) : Type 0 where
  pub world : now ≡ (sync_until system command done queues before).world
  pub faults_are : faults ≡ (sync_until system command done queues before).faults
