-- Births alone: what the systems of a script issue if nothing is refused to them, in terms of
-- births. There is no handle in it, no allocator, no reservation and no worker. A handle that a
-- script names has no meaning here. What the commands do is in `BirthsAlone` of `ent_world`.
use Rattle.std.specs.Prelude.{ℕ, ◌+◌, ◌==◌, if◌then◌else◌, List, [], ◌∷◌, ◌++◌}
use Rattle.std.specs.Prelude.{Option, None, Some, is_some, map, filter}
use Rattle.std.specs.FinMap.{find}
use Rattle.std.specs.List.{All, range_with_len}
use Rattle.ent_handle.specs.declared.birth.Birth.{Birth}
use Rattle.ent_handle.specs.Birth.{birth_cmp}
use Rattle.ent_handle.specs.Component.{component_cmp}
use Rattle.ent_queue.specs.Command.{Command, Refused}
use Rattle.ent_world.specs.BirthsAlone.{BirthMap, BirthCommand, Spawn, Insert, Remove, Despawn}
use Rattle.ent_script.specs.declared.operation.Operation.{Operation}
use Rattle.ent_script.specs.declared.operation.Operation.TheVariants as operation
use Rattle.ent_script.specs.declared.target.Target.{Target}
use Rattle.ent_script.specs.declared.target.Target.TheVariants as target

-- that many births of one system, from the next one on
abbrev pub births_from : Birth → ℕ → List Birth
births_from next count =
    map (λ k. record next { ordinal = next.ordinal + k }) (range_with_len 0 count)

-- the next birth after these
abbrev pub later_birth : Birth → ℕ → Birth
later_birth next count = record next { ordinal = next.ordinal + count }

-- what each name of a system refers to
abbrev pub BirthBindings : Type 0
BirthBindings = ℕ → List Birth

abbrev pub with_binding : Option ℕ → List Birth → BirthBindings → BirthBindings
with_binding None births names m = names m
with_binding (Some n) births names m = if m == n then births else names m

-- the births that a target means, in their order
abbrev pub births_meant : BirthMap → BirthBindings → Target → List Birth
births_meant view names (target.Name n) = names n
births_meant view names (target.Handle h) = []
births_meant view names (target.Each id) =
    map (λ entity. entity.0)
    (filter (λ entity. is_some (find component_cmp id entity.1)) view)
births_meant view names (target.Birth birth) =
    if is_some (find birth_cmp birth view) then birth ∷ [] else []

-- what the operations of a system issue, if its next spawn has this birth
abbrev pub issued_alone : BirthMap → BirthBindings → Birth → List Operation → List BirthCommand
issued_alone view names next [] = []
issued_alone view names next (operation.Spawn bundle binds ∷ ops) =
    Spawn (births_from next 1) bundle
    ∷ issued_alone view (with_binding binds (births_from next 1) names) (later_birth next 1) ops
issued_alone view names next (operation.SpawnMany count bundle binds ∷ ops) =
    Spawn (births_from next count) bundle
    ∷ issued_alone view (with_binding binds (births_from next count) names)
    (later_birth next count) ops
issued_alone view names next (operation.Insert bundle on ∷ ops) =
    map (λ birth. Insert birth bundle) (births_meant view names on)
    ++ issued_alone view names next ops
issued_alone view names next (operation.Remove id on ∷ ops) =
    map (λ birth. Remove birth id) (births_meant view names on)
    ++ issued_alone view names next ops
issued_alone view names next (operation.Despawn on ∷ ops) =
    map Despawn (births_meant view names on) ++ issued_alone view names next ops

-- what the systems of a frame issue, from this system on; each begins with no names bound
abbrev pub queues_alone : ℕ → ℕ → BirthMap → List (List Operation) → List (List BirthCommand)
queues_alone frame system view [] = []
queues_alone frame system view (ops ∷ systems) =
    issued_alone view (λ n. []) (record { frame = frame; system = system; ordinal = 0 }) ops
    ∷ queues_alone frame (system + 1) view systems

-- ---- when births alone determine what a system issues

-- the target is not the handle of an entity
abbrev pub IsNoHandle : Target → Type 0
IsNoHandle (target.Name n) = Unit {0}
IsNoHandle (target.Handle h) = ⊥
IsNoHandle (target.Each id) = Unit {0}
IsNoHandle (target.Birth birth) = Unit {0}

-- no entity is named by its handle in the operation
abbrev pub NeedsNoHandle : Operation → Type 0
NeedsNoHandle (operation.Spawn bundle binds) = Unit {0}
NeedsNoHandle (operation.SpawnMany count bundle binds) = Unit {0}
NeedsNoHandle (operation.Insert bundle on) = IsNoHandle on
NeedsNoHandle (operation.Remove id on) = IsNoHandle on
NeedsNoHandle (operation.Despawn on) = IsNoHandle on

-- nor in any operation of a system
abbrev pub NamesNoHandle : List Operation → Type 0
NamesNoHandle ops = All NeedsNoHandle ops

-- For laws: the command is not a request that was refused.
abbrev pub IsGranted : Command → Type 0
IsGranted (Refused wanted why) = ⊥
IsGranted _ = Unit {0}

-- For laws: no command of any queue is such a request.
abbrev pub AreGranted : List (List Command) → Type 0
AreGranted queues = All (All IsGranted) queues
