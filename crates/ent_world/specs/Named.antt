-- For laws: when births alone determine what a world is, and what queues do to it.
use Rattle.std.specs.Prelude.{◌≡◌, ℕ, ◌^◌, ◌<◌, ◌≤◌, true, T, List, ◌∷◌, [], Some, map, length}
use Rattle.std.specs.List.{All, AllZip, flat_map}
use Rattle.std.specs.List.Sorted.{IsPermutation}
use Rattle.std.specs.FinMap as finite
use Rattle.ent_handle.specs.declared.birth.Birth.{Birth}
use Rattle.ent_handle.specs.Birth.{birth_cmp}
use Rattle.ent_handle.specs.Handle.{Handle}
use Rattle.ent_alloc.specs.Sequential.{Allocator}
use Rattle.ent_storage.specs.EntityMap.{Entity, EntityMap, birth_of}
use Rattle.ent_storage.specs.Bundle.{Bundle}
use Rattle.ent_queue.specs.Command.{Command, Spawn, SpawnMany, Insert, Remove, Despawn}
use Rattle.ent_queue.specs.Command.{Refused}
use Rattle.ent_world.specs.declared.fault.Fault.{Fault}
use Rattle.ent_world.specs.declared.fault.FaultKind.TheVariants as kind
use Rattle.ent_world.specs.Effects.{Applied}
use Rattle.ent_world.specs.Sync.{handles_listed}
use Rattle.ent_world.specs.BirthsAlone.{BirthMap, BirthCommand, BirthFault, AppliedAlone}
use Rattle.ent_world.specs.BirthsAlone as alone

-- Each entity has its components under its birth, and no other entity has that birth. Under each
-- birth of the second map there is such an entity.
pub record AreNamed (m : EntityMap) (births : BirthMap) : Type 0 where
  pub rising : T (finite.is_sorted birth_cmp births)
  pub there : (h : Handle) (e : Entity) → finite.get m h ≡ Some e
      → finite.find birth_cmp e.birth births ≡ Some (finite.entries e.components)
  pub apart : (g h : Handle) (birth : Birth) → birth_of m g ≡ Some birth → birth_of m h ≡ Some birth
      → g ≡ h
  pub only : (birth : Birth) (items : Bundle) → finite.find birth_cmp birth births ≡ Some items
      → (h : Handle) × (birth_of m h ≡ Some birth)

-- The name of each handle that is there is its birth. What it says of other handles is left open.
abbrev pub AreNames : (Handle → Birth) → EntityMap → Type 0
AreNames name m = (h : Handle) (e : Entity) → finite.get m h ≡ Some e → name h ≡ e.birth

-- the entity is there
abbrev pub IsThere : EntityMap → Handle → Type 0
IsThere m h = finite.contains_key m h ≡ true

-- The second command is the first with names instead of handles, all of which are there in the
-- map. A refused spawn has none.
abbrev pub IsNamedBy : (Handle → Birth) → EntityMap → Command → BirthCommand → Type 0
IsNamedBy name m (Spawn h items) c = IsThere m h × (c ≡ alone.Spawn (name h ∷ []) items)
IsNamedBy name m (SpawnMany hs items) c =
    All (IsThere m) hs × (c ≡ alone.Spawn (map name hs) items)
IsNamedBy name m (Insert h items) c = IsThere m h × (c ≡ alone.Insert (name h) items)
IsNamedBy name m (Remove h id) c = IsThere m h × (c ≡ alone.Remove (name h) id)
IsNamedBy name m (Despawn h) c = IsThere m h × (c ≡ alone.Despawn (name h))
IsNamedBy name m (Refused wanted why) c = ⊥

-- each command of each queue
abbrev pub AreNamedBy : (Handle → Birth) → EntityMap → List (List Command)
    → List (List BirthCommand) → Type 0
AreNamedBy name m queues births = AllZip (AllZip (IsNamedBy name m)) queues births

-- the same command of the same system, on an entity that was gone
pub record IsSameFault (fault : Fault) (by_birth : BirthFault) : Type 0 where
  pub system : by_birth.system ≡ fault.system
  pub command : by_birth.command ≡ fault.command
  pub handle : Handle
  pub kind : fault.kind ≡ kind.NotAlive handle

-- A world after some commands, and births alone after the same ones: their entities, the names, and
-- the faults one by one.
pub record AreNamedAfter (name : Handle → Birth) (after : Applied) (by_births : AppliedAlone)
    : Type 0 where
  pub entities : AreNamed after.world.entities by_births.entities
  pub names : AreNames name after.world.entities
  pub faults : AllZip IsSameFault after.faults by_births.faults

-- Each birth is of a frame below this number.
abbrev pub AreBelow : ℕ → EntityMap → Type 0
AreBelow phase m = (h : Handle) (e : Entity) → finite.get m h ≡ Some e → e.birth.frame < phase

-- The queues list just what is reserved, each handle once, and none of them more than there are
-- ordinals.
pub record AreListed (queues : List (List Command)) (s : Allocator) : Type 0 where
  pub listed : IsPermutation s.taken (flat_map handles_listed queues)
  pub ordinals : All (λ queue. length (handles_listed queue) ≤ 2 ^ 32) queues
