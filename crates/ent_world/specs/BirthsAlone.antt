-- Births alone: what commands do to entities that are identified by their births. There is no
-- handle in it, no allocator, no reservation and no worker.
use Rattle.std.specs.Prelude.{ℕ, ◌+◌, not, if◌then◌else◌, List, [], ◌∷◌, ◌++◌, is_some, filter}
use Rattle.std.specs.Prelude.{unwrap_or}
use Rattle.std.specs.FinMap.{find, put}
use Rattle.std.specs.List.{flat_map}
use Rattle.std.specs.Ordering.{eq_by_cmp}
use Rattle.ent_handle.specs.declared.birth.Birth.{Birth}
use Rattle.ent_handle.specs.declared.component.ComponentId.{ComponentId}
use Rattle.ent_handle.specs.Birth.{birth_cmp}
use Rattle.ent_handle.specs.Component.{component_cmp}
use Rattle.ent_storage.specs.Bundle.{Bundle, with_put}

-- the components of each entity that is there, in ascending order of birth
abbrev pub BirthMap : Type 0
BirthMap = List (Birth × Bundle)

-- A spawn gives its births the components. The other commands are for one birth.
pub data BirthCommand : Type 0 where
  Spawn : List Birth → Bundle → BirthCommand
  Insert : Birth → Bundle → BirthCommand
  Remove : Birth → ComponentId → BirthCommand
  Despawn : Birth → BirthCommand

-- a command on the birth of an entity that isn't there: the system, and the command's number in its
-- queue
pub record BirthFault : Type 0 where
  pub system : ℕ
  pub command : ℕ

-- the entities after some commands, and the faults of these
pub record AppliedAlone : Type 0 where
  pub entities : BirthMap
  pub faults : List BirthFault

-- the components of a birth
abbrev pub held_by : BirthMap → Birth → Bundle
held_by m birth = unwrap_or (find birth_cmp birth m) []

abbrev pub inserted : Bundle → Birth → BirthMap → BirthMap
inserted items birth m = put birth_cmp birth (with_put (held_by m birth) items) m

abbrev pub removed : ComponentId → Birth → BirthMap → BirthMap
removed id birth m =
    put birth_cmp birth
    (filter (λ item. not (eq_by_cmp component_cmp item.0 id)) (held_by m birth)) m

abbrev pub despawned : Birth → BirthMap → BirthMap
despawned birth m = filter (λ entity. not (eq_by_cmp birth_cmp entity.0 birth)) m

-- A command changes an entity that is there; otherwise it changes nothing, and is a fault.
abbrev pub on_birth : ℕ → ℕ → (Birth → BirthMap → BirthMap) → Birth → AppliedAlone → AppliedAlone
on_birth system command change birth a =
    if is_some (find birth_cmp birth a.entities)
    then record a { entities = change birth a.entities }
    else record a { faults = a.faults ++ record { system = system; command = command } ∷ [] }

-- each of the births in turn
abbrev pub on_each_birth : ℕ → ℕ → (Birth → BirthMap → BirthMap) → List Birth → AppliedAlone
    → AppliedAlone
on_each_birth system command change [] a = a
on_each_birth system command change (birth ∷ births) a =
    on_each_birth system command change births (on_birth system command change birth a)

abbrev pub after_birth_command : ℕ → ℕ → BirthCommand → AppliedAlone → AppliedAlone
after_birth_command system command (Spawn births items) a =
    on_each_birth system command (inserted items) births a
after_birth_command system command (Insert birth items) a =
    on_birth system command (inserted items) birth a
after_birth_command system command (Remove birth id) a =
    on_birth system command (removed id) birth a
after_birth_command system command (Despawn birth) a = on_birth system command despawned birth a

-- the commands of a system, in order, counted from here on
abbrev pub after_birth_commands : ℕ → ℕ → List BirthCommand → AppliedAlone → AppliedAlone
after_birth_commands system command [] a = a
after_birth_commands system command (c ∷ cs) a =
    after_birth_commands system (command + 1) cs (after_birth_command system command c a)

-- one system after the other
abbrev pub after_birth_queues : ℕ → List (List BirthCommand) → AppliedAlone → AppliedAlone
after_birth_queues system [] a = a
after_birth_queues system (q ∷ qs) a =
    after_birth_queues (system + 1) qs (after_birth_commands system 0 q a)

-- the births of a command, and of all commands of a frame
abbrev pub births_of : BirthCommand → List Birth
births_of (Spawn births items) = births
births_of (Insert birth items) = []
births_of (Remove birth id) = []
births_of (Despawn birth) = []

abbrev pub births_in : List (List BirthCommand) → List Birth
births_in queues = flat_map (flat_map births_of) queues

-- each of them enters without components
abbrev pub entered_alone : List Birth → BirthMap → BirthMap
entered_alone [] m = m
entered_alone (birth ∷ births) m = entered_alone births (put birth_cmp birth [] m)

-- First all spawns of a frame enter, and then its commands take effect.
abbrev pub frame_alone : List (List BirthCommand) → BirthMap → AppliedAlone
frame_alone queues view =
    after_birth_queues 0 queues
    (record { entities = entered_alone (births_in queues) view; faults = [] })
