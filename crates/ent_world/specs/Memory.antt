-- Which commands may take memory, so that a sync point may stop there.
use Rattle.std.specs.Prelude.{◌≡◌, ℕ, ◌||◌, Bool, true, not, nat_lt, List, length, slice_get}
use Rattle.std.specs.Prelude.{Option, None, Some, false, IsSomeAnd}
use Rattle.std.specs.Option.{is_some, option_map_or}
use Rattle.ent_handle.specs.Handle.{Handle}
use Rattle.ent_alloc.specs.Sequential.{next}
use Rattle.ent_storage.specs.Bundle.{Bundle}
use Rattle.ent_storage.specs.Components.{missing}
use Rattle.ent_storage.specs.EntityMap.{components_of}
use Rattle.ent_queue.specs.Command.{Command, Spawn, SpawnMany, Insert, Remove}
use Rattle.ent_queue.specs.Command.{Despawn, Refused}
use Rattle.ent_world.specs.World.{World, lives_in}

-- The entity lacks one of the components; or there are several, which are read into a list first;
-- or it is not alive, which is a fault to be listed.
abbrev pub insert_takes_memory : World → Bundle → Handle → Bool
insert_takes_memory w items h = nat_lt 1 (length items)
    || option_map_or (λ held. nat_lt 0 (missing held items)) (components_of w.entities h) true

-- the same of one of many, if there is one of that number
abbrev pub one_takes_memory : World → Bundle → Option Handle → Bool
one_takes_memory w items None = false
one_takes_memory w items (Some h) = insert_takes_memory w items h

-- The entity's slot is given again, or it is not alive, which is a fault to be listed.
abbrev pub despawn_takes_memory : World → Handle → Bool
despawn_takes_memory w h = is_some (next w.allocator.limits h) || not (lives_in w h)

-- The command may take memory in this world, at that of its handles: it gives an entity several
-- components, or one that the entity lacks, frees a handle whose slot is given again, or lists a
-- fault. No other command takes any: not a spawn of none, an empty bundle for a living entity,
-- another value of one component, the removal of a component from a living entity, or a despawn
-- that retires a slot.
abbrev pub command_takes_memory : World → ℕ → Command → Bool
command_takes_memory w done (Spawn h items) = insert_takes_memory w items h
command_takes_memory w done (SpawnMany hs items) = one_takes_memory w items (slice_get hs done)
command_takes_memory w done (Insert h items) = insert_takes_memory w items h
command_takes_memory w done (Remove h id) = not (lives_in w h)
command_takes_memory w done (Despawn h) = despawn_takes_memory w h
command_takes_memory w done (Refused wanted why) = true

-- The queue has that command, and there it may take memory.
abbrev pub TakesMemoryIn : World → ℕ → ℕ → List Command → Type 0
TakesMemoryIn w command done queue =
    IsSomeAnd (slice_get queue command) (λ c. command_takes_memory w done c ≡ true)

-- The queues have that command of that system, and there it may take memory.
abbrev pub TakesMemoryAt : World → ℕ → ℕ → ℕ → List (List Command) → Type 0
TakesMemoryAt w system command done queues =
    IsSomeAnd (slice_get queues system) (λ queue. TakesMemoryIn w command done queue)
