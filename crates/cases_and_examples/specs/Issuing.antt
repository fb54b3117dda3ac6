-- What the systems of the game may issue, by the world that they see.
use Rattle.std.specs.Prelude.{◌≡◌, ◌≤◌, ℕ, List, [], ◌∷◌, length, IsSome}
use Rattle.std.specs.List.{All}
use Rattle.ent_handle.specs.Handle.{Handle}
use Rattle.ent_storage.specs.EntityMap.{value_of}
use Rattle.ent_queue.specs.Command.{Command, SpawnMany, Insert, Despawn, Refused}
use Rattle.ent_world.specs.OpenWorld.{View}
use Rattle.cases_and_examples.specs.declared.examples.game.components.TheConstants.{AGE}
use Rattle.cases_and_examples.specs.declared.examples.game.role.Role.{Role}
use Rattle.cases_and_examples.specs.declared.examples.game.role.Role.TheVariants as role

-- one command, which asks for that many handles
abbrev pub IsLaunch : ℕ → List Command → Type 0
IsLaunch count (SpawnMany handles bundle ∷ []) = length handles ≡ count
IsLaunch count (Refused wanted why ∷ []) = wanted ≡ count
IsLaunch count _ = ⊥

-- The entity is a projectile: it has an age.
abbrev pub IsProjectile : View → Handle → Type 0
IsProjectile view h = IsSome (value_of view.entities h AGE)

-- A projectile is changed or taken out.
abbrev pub IsOnProjectile : View → Command → Type 0
IsOnProjectile view (Insert h bundle) = IsProjectile view h
IsOnProjectile view (Despawn h) = IsProjectile view h
IsOnProjectile view _ = ⊥

-- each of the systems
abbrev pub role_may : Role → View → List Command → Type 0
role_may (role.Launch launch) view queue = IsLaunch launch.count queue
role_may (role.Age age) view queue = All (IsOnProjectile view) queue
role_may (role.Aim aim) view queue = length queue ≤ 1
