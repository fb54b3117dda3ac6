-- What commands do to a world, and the faults of those that have no effect.
use Rattle.std.specs.Prelude.{ℕ, ◌+◌, if◌then◌else◌, List, [], ◌∷◌, ◌++◌}
use Rattle.std.specs.FinMap as map
use Rattle.ent_handle.specs.declared.birth.Birth.{Birth}
use Rattle.ent_handle.specs.declared.component.ComponentId.{ComponentId}
use Rattle.ent_handle.specs.Handle.{Handle}
use Rattle.ent_alloc.specs.Sequential.{after_alloc, after_free}
use Rattle.ent_alloc.specs.declared.refused.Refused.{Refused as Refusal}
use Rattle.ent_alloc.specs.declared.refused.Refused.TheVariants as refusal
use Rattle.ent_storage.specs.Components.{with_items}
use Rattle.ent_storage.specs.EntityMap.{Entity, with_components}
use Rattle.ent_storage.specs.Bundle.{Bundle}
use Rattle.ent_queue.specs.Command.{Command, Spawn, SpawnMany, Insert, Remove}
use Rattle.ent_queue.specs.Command.{Despawn, Refused}
use Rattle.ent_world.specs.World.{World, lives_in}
use Rattle.ent_world.specs.declared.fault.Fault.{Fault}
use Rattle.ent_world.specs.declared.fault.FaultKind.{FaultKind}
use Rattle.ent_world.specs.declared.fault.FaultKind.TheVariants as kind

-- each component of the bundle is set, and the entity's others stay
abbrev pub after_insert : Bundle → Handle → World → World
after_insert items h w =
    record w { entities = with_components w.entities h (λ held. with_items held items) }

-- the component goes, if it is there
abbrev pub after_remove : ComponentId → Handle → World → World
after_remove id h w =
    record w { entities = with_components w.entities h (λ held. map.remove held id) }

-- the entity goes, and its handle is freed
abbrev pub after_despawn : Handle → World → World
after_despawn h w =
    record w { allocator = after_free w.allocator h; entities = map.remove w.entities h }

-- an entity with its first components
abbrev pub spawned : Birth → Bundle → Entity
spawned birth items = record { birth = birth; components = with_items map.empty items }

-- the handle comes to life at once
abbrev pub after_spawn : Birth → Bundle → Handle → World → World
after_spawn birth items h w = record w {
  allocator = after_alloc w.allocator h;
  entities = map.insert w.entities h (spawned birth items);
}

-- a world after commands, and their faults in order
pub record Applied : Type 0 where
  pub world : World
  pub faults : List Fault

abbrev pub applied : World → List Fault → Applied
applied w faults = record { world = w; faults = faults }

-- one fault more
abbrev pub with_fault : ℕ → ℕ → FaultKind → Applied → Applied
with_fault system command why a =
    record a { faults = a.faults ++ record { system = system; command = command; kind = why } ∷ [] }

-- A command changes an entity that is there; otherwise it changes nothing, and is a fault.
abbrev pub on_entity : ℕ → ℕ → (Handle → World → World) → Handle → Applied → Applied
on_entity system command change h a =
    if lives_in a.world h
    then record a { world = change h a.world }
    else with_fault system command (kind.NotAlive h) a

-- each of the handles in turn
abbrev pub on_each : ℕ → ℕ → (Handle → World → World) → List Handle → Applied → Applied
on_each system command change [] a = a
on_each system command change (h ∷ hs) a =
    on_each system command change hs (on_entity system command change h a)

-- a refusal as a fault
abbrev pub refused : Refusal → FaultKind
refused (refusal.Space wanted left) = kind.Space wanted left
refused (refusal.Quota left) = kind.Quota left

-- a command of a system, by its number in the system's queue
abbrev pub after_command : ℕ → ℕ → Command → Applied → Applied
after_command system command (Spawn h items) a = on_entity system command (after_insert items) h a
after_command system command (SpawnMany hs items) a =
    on_each system command (after_insert items) hs a
after_command system command (Insert h items) a = on_entity system command (after_insert items) h a
after_command system command (Remove h id) a = on_entity system command (after_remove id) h a
after_command system command (Despawn h) a = on_entity system command after_despawn h a
after_command system command (Refused wanted why) a = with_fault system command (refused why) a

-- the commands of a queue, in order, counted from here on
abbrev pub after_commands : ℕ → ℕ → List Command → Applied → Applied
after_commands system command [] a = a
after_commands system command (c ∷ cs) a =
    after_commands system (command + 1) cs (after_command system command c a)

-- one queue after the other, each of the next system
abbrev pub after_queues : ℕ → List (List Command) → Applied → Applied
after_queues system [] a = a
after_queues system (q ∷ qs) a = after_queues (system + 1) qs (after_commands system 0 q a)
