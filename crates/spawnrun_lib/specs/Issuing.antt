-- What a system of a script may issue.
use Rattle.std.specs.Prelude.{◌≡◌, ℕ, ℤ, List, [], ◌∷◌, ◌++◌, length, map, Some, ◌==◌, ◌⊎◌}
use Rattle.std.specs.Prelude.{if◌then◌else◌, ◌≢◌}
use Rattle.std.specs.declared.cmp.Ordering.TheVariants.{Greater}
use Rattle.ent_handle.specs.declared.birth.Birth.{Birth}
use Rattle.ent_handle.specs.declared.component.ComponentId.{ComponentId}
use Rattle.ent_handle.specs.Handle.{Handle, handle_cmp}
use Rattle.ent_storage.specs.BirthOrder.{ListsWith}
use Rattle.ent_storage.specs.EntityMap.{birth_of}
use Rattle.ent_queue.specs.Command.{Command, Spawn, SpawnMany, Insert, Remove, Despawn, Refused}
use Rattle.ent_world.specs.OpenWorld.{View}
use Rattle.ent_script.specs.declared.operation.Operation.{Operation}
use Rattle.ent_script.specs.declared.operation.Operation.TheVariants as operation
use Rattle.ent_script.specs.declared.target.Target.{Target}
use Rattle.ent_script.specs.declared.target.Target.TheVariants as target

-- what each name refers to: a list of handles, which is empty if nothing is bound to it
abbrev pub Bindings : Type 0
Bindings = ℕ → List Handle

abbrev pub unbound : Bindings
unbound n = []

abbrev pub bound : ℕ → List Handle → Bindings → Bindings
bound n hs names m = if m == n then hs else names m

-- what the names refer to after an operation that has issued these commands: a spawn that was
-- served binds its name, and a refused one binds nothing
abbrev pub names_after : Bindings → Operation → List Command → Bindings
names_after names (operation.Spawn bundle (Some n)) (Spawn h items ∷ []) = bound n (h ∷ []) names
names_after names (operation.SpawnMany count bundle (Some n)) (SpawnMany hs items ∷ []) =
    bound n hs names
names_after names _ _ = names

-- The list has the handle of the entity with that birth: the least if there are several, and none
-- if there is no such entity.
abbrev pub IsOfBirth : View → Birth → List Handle → Type 0
IsOfBirth view birth [] = (h : Handle) → birth_of view.entities h ≢ Some birth
IsOfBirth view birth (h ∷ []) =
    (birth_of view.entities h ≡ Some birth)
    × ((other : Handle) → birth_of view.entities other ≡ Some birth
    → handle_cmp h other ≢ Greater)
IsOfBirth view birth (h ∷ k ∷ hs) = ⊥

-- The target means these handles, in this order.
abbrev pub IsTargeted : View → Bindings → Target → List Handle → Type 0
IsTargeted view names (target.Name n) hs = hs ≡ names n
IsTargeted view names (target.Handle h) hs = hs ≡ h ∷ []
IsTargeted view names (target.Each id) hs = ListsWith id view.entities hs
IsTargeted view names (target.Birth birth) hs = IsOfBirth view birth hs

-- one command for each handle of a target
abbrev pub OnEach : View → Bindings → Target → (Handle → Command) → List Command → Type 0
OnEach view names on command issued =
    (hs : List Handle) × IsTargeted view names on hs × (issued ≡ map command hs)

abbrev pub IsSpawn : List (ComponentId × ℤ) → List Command → Type 0
IsSpawn bundle (Spawn h items ∷ []) = items ≡ bundle
IsSpawn bundle (Refused wanted why ∷ []) = wanted ≡ 1
IsSpawn bundle _ = ⊥

abbrev pub IsSpawnMany : ℕ → List (ComponentId × ℤ) → List Command → Type 0
IsSpawnMany count bundle (SpawnMany hs items ∷ []) = (length hs ≡ count) × (items ≡ bundle)
IsSpawnMany count bundle (Refused wanted why ∷ []) = wanted ≡ count
IsSpawnMany count bundle _ = ⊥

-- One operation may issue these commands.
abbrev pub Issues : View → Bindings → Operation → List Command → Type 0
Issues view names (operation.Spawn bundle binds) issued = IsSpawn bundle issued
Issues view names (operation.SpawnMany count bundle binds) issued = IsSpawnMany count bundle issued
Issues view names (operation.Insert bundle on) issued =
    OnEach view names on (λ h. Insert h bundle) issued
Issues view names (operation.Remove id on) issued = OnEach view names on (λ h. Remove h id) issued
Issues view names (operation.Despawn on) issued = OnEach view names on Despawn issued

-- The operations may issue these commands, one after the other.
abbrev pub IssuesAll : View → Bindings → List Operation → List Command → Type 0
IssuesAll view names [] queue = queue ≡ []
IssuesAll view names (op ∷ ops) queue =
    (issued rest : List Command) × (queue ≡ issued ++ rest) × Issues view names op issued
    × IssuesAll view (names_after names op issued) ops rest

-- A system begins with no names bound.
abbrev pub MayIssue : List Operation → View → List Command → Type 0
MayIssue ops view queue = IssuesAll view unbound ops queue

-- ---- lack of memory

-- The target means these handles and more: the command for at least one of it is missing.
pub record IsCutShort (view : View) (names : Bindings) (on : Target) (command : Handle → Command)
    (issued : List Command) : Type 0 where
  pub done : List Handle
  pub missing : Handle
  pub others : List Handle
  pub target : IsTargeted view names on (done ++ missing ∷ others)
  pub commands : issued ≡ map command done

-- the list of an `each` takes memory before the first command, and so may the look-up of a birth
abbrev pub IsUnlisted : Target → List Command → Type 0
IsUnlisted (target.Name n) issued = ⊥
IsUnlisted (target.Handle h) issued = ⊥
IsUnlisted (target.Each id) issued = issued ≡ []
IsUnlisted (target.Birth birth) issued = issued ≡ []

abbrev pub StopsOnEach : View → Bindings → Target → (Handle → Command) → List Command → Type 0
StopsOnEach view names on command issued =
    IsUnlisted on issued ⊎ IsCutShort view names on command issued

-- One operation may have issued these commands when it ran out of memory: a spawn none.
abbrev pub Stops : View → Bindings → Operation → List Command → Type 0
Stops view names (operation.Spawn bundle binds) issued = issued ≡ []
Stops view names (operation.SpawnMany count bundle binds) issued = issued ≡ []
Stops view names (operation.Insert bundle on) issued =
    StopsOnEach view names on (λ h. Insert h bundle) issued
Stops view names (operation.Remove id on) issued =
    StopsOnEach view names on (λ h. Remove h id) issued
Stops view names (operation.Despawn on) issued = StopsOnEach view names on Despawn issued

-- One of the operations may have run out of memory, after those before it.
abbrev pub StopsAmong : View → Bindings → List Operation → List Command → Type 0
StopsAmong view names [] queue = ⊥
StopsAmong view names (op ∷ ops) queue =
    Stops view names op queue
    ⊎ ((issued rest : List Command) × (queue ≡ issued ++ rest) × Issues view names op issued
    × StopsAmong view (names_after names op issued) ops rest)

-- A system may have issued these commands when it ran out of memory.
abbrev pub MayStop : List Operation → View → List Command → Type 0
MayStop ops view queue = StopsAmong view unbound ops queue
