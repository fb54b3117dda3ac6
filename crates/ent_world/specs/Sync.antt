-- The sync point: what is reserved is born, and then all commands take effect, queue by queue.
use Rattle.std.specs.Prelude.{ℕ, ◌+◌, ◌-◌, ◌^◌, ◌<◌, min, max, List, [], ◌∷◌, ◌++◌, length}
use Rattle.std.specs.Prelude.{take, drop, filter, Option, None, Some, is_none, unwrap_or}
use Rattle.std.specs.Prelude.{Result, Ok, Err}
use Rattle.std.specs.List.{flat_map, position_from}
use Rattle.std.specs.Ordering.{eq_by_cmp}
use Rattle.std.specs.FinMap as map
use Rattle.ent_handle.specs.declared.birth.Birth.{Birth}
use Rattle.ent_handle.specs.Handle.{Handle, handle_cmp}
use Rattle.ent_alloc.specs.Sequential.{born, after_flush}
use Rattle.ent_storage.specs.EntityMap.{EntityMap, newborn}
use Rattle.ent_queue.specs.Command.{Command, Spawn, SpawnMany, Insert, Remove, Despawn}
use Rattle.ent_queue.specs.Command.{Refused}
use Rattle.ent_world.specs.declared.fault.SyncFault.{SyncFault}
use Rattle.ent_world.specs.declared.fault.SyncFault.TheVariants.{FlushMemory, Memory}
use Rattle.ent_world.specs.declared.fault.SyncReport.{SyncReport}
use Rattle.ent_world.specs.World.{World}
use Rattle.ent_world.specs.Effects.{Applied, applied, after_queues}

-- the handles that were reserved for a command
abbrev pub listed_by : Command → List Handle
listed_by (Spawn h items) = h ∷ []
listed_by (SpawnMany hs items) = hs
listed_by (Insert h items) = []
listed_by (Remove h id) = []
listed_by (Despawn h) = []
listed_by (Refused wanted why) = []

-- the handles that a queue lists, in the order of the replies
abbrev pub handles_listed : List Command → List Handle
handles_listed queue = flat_map listed_by queue

-- the number of no system, and the greatest ordinal
abbrev pub no_system : ℕ
no_system = 2 ^ 32 - 1

abbrev pub ordinal : ℕ → ℕ
ordinal n = min n (2 ^ 32 - 1)

-- how many come before a handle in a list, if it is in the list
abbrev pub ordinal_among : List Handle → Handle → Option ℕ
ordinal_among handles h = position_from (eq_by_cmp handle_cmp h) 0 handles

-- the birth by the first queue that lists the handle
abbrev pub at_ordinal : ℕ → ℕ → Option ℕ → Option Birth → Option Birth
at_ordinal phase system None others = others
at_ordinal phase system (Some before) others =
    Some (record { frame = phase; system = system; ordinal = ordinal before })

abbrev pub listed_birth : ℕ → ℕ → List (List Command) → Handle → Option Birth
listed_birth phase system [] h = None
listed_birth phase system (q ∷ qs) h =
    at_ordinal phase system (ordinal_among (handles_listed q) h)
    (listed_birth phase (system + 1) qs h)

-- those of the handles that no queue lists
abbrev pub unlisted : List (List Command) → List Handle → List Handle
unlisted queues handles = filter (λ h. is_none (listed_birth 0 0 queues h)) handles

-- the birth of a handle that no queue lists: such handles are numbered
abbrev pub unlisted_birth : ℕ → List Handle → Handle → Birth
unlisted_birth phase others h =
    record {
      frame = phase;
      system = no_system;
      ordinal = ordinal (unwrap_or (ordinal_among others h) 0);
    }

-- the birth of a handle that is born with these
abbrev pub birth_in : ℕ → List (List Command) → List Handle → Handle → Birth
birth_in phase queues handles h =
    unwrap_or (listed_birth phase 0 queues h) (unlisted_birth phase (unlisted queues handles) h)

-- each of the handles with its birth, and without components
abbrev pub with_born : EntityMap → (Handle → Birth) → List Handle → EntityMap
with_born m birth [] = m
with_born m birth (h ∷ hs) = with_born (map.insert m h (newborn (birth h))) birth hs

-- the next phase; the last one is its own next
abbrev pub next_phase : ℕ → ℕ
next_phase phase = min (phase + 1) (2 ^ 64 - 1)

-- what is reserved is born, each handle with its birth by these queues
abbrev pub after_births : List (List Command) → World → World
after_births queues w = record {
  allocator = after_flush w.allocator;
  phase = next_phase w.phase;
  entities = with_born w.entities (birth_in w.phase queues (born w.allocator)) (born w.allocator);
}

-- the sync of these queues, in the order of their systems: the world after it, and the faults
abbrev pub sync : List (List Command) → World → Applied
sync queues w = after_queues 0 queues (applied (after_births queues w) [])

-- A command as far as its first handles go; only a spawn of many has more than one stop.
abbrev pub first_part : ℕ → List Command → List Command
first_part done [] = []
first_part done (Spawn h items ∷ cs) = []
first_part done (SpawnMany hs items ∷ cs) = SpawnMany (take done hs) items ∷ []
first_part done (Insert h items ∷ cs) = []
first_part done (Remove h id ∷ cs) = []
first_part done (Despawn h ∷ cs) = []
first_part done (Refused wanted why ∷ cs) = []

-- the commands of a queue before that handle of that command
abbrev pub cut_commands : ℕ → ℕ → List Command → List Command
cut_commands command done q = take command q ++ first_part done (drop command q)

-- the queues before that handle of that command of that system
abbrev pub cut_queue : ℕ → ℕ → List (List Command) → List (List Command)
cut_queue command done [] = []
cut_queue command done (q ∷ qs) = cut_commands command done q ∷ []

abbrev pub cut : ℕ → ℕ → ℕ → List (List Command) → List (List Command)
cut system command done queues = take system queues ++ cut_queue command done (drop system queues)

-- the sync that stopped there: all births have taken effect, and exactly the commands before that
-- point
abbrev pub sync_until : ℕ → ℕ → ℕ → List (List Command) → World → Applied
sync_until system command done queues w =
    after_queues 0 (cut system command done queues) (applied (after_births queues w) [])

-- how many stops the first of the commands has: before each of its handles
abbrev pub stops : List Command → ℕ
stops [] = 0
stops (Spawn h items ∷ cs) = 1
stops (SpawnMany hs items ∷ cs) = max 1 (length hs)
stops (Insert h items ∷ cs) = 1
stops (Remove h id ∷ cs) = 1
stops (Despawn h ∷ cs) = 1
stops (Refused wanted why ∷ cs) = 1

abbrev pub stops_in : ℕ → List (List Command) → ℕ
stops_in command [] = 0
stops_in command (q ∷ qs) = stops (drop command q)

-- The queues have that command of that system, and it has that handle.
abbrev pub IsStop : ℕ → ℕ → ℕ → List (List Command) → Type 0
IsStop system command done queues = done < stops_in command (drop system queues)

-- what holds of a sync that stopped at a command for lack of memory
abbrev pub IfStopped : {X : Type 0} → Result X SyncFault → (ℕ → ℕ → ℕ → SyncReport → Type 0)
    → Type 0
IfStopped (Ok x) P = Unit {0}
IfStopped (Err FlushMemory) P = Unit {0}
IfStopped (Err (Memory system command done so_far)) P = P system command done so_far
