-- When a report by births is the text of births alone, and so the same for every number of workers:
-- the script names no handle, and no request is refused.
use Rattle.std.specs.Prelude.{◌≡◌, ℕ, ◌≤◌, ◌⊎◌, List, [], ◌∷◌, ◌++◌}
use Rattle.std.specs.List.{All, sum_by}
use Rattle.ent_world.specs.declared.fault.Fault.{Fault}
use Rattle.ent_world.specs.declared.fault.FaultKind.{FaultKind}
use Rattle.ent_world.specs.declared.fault.FaultKind.TheVariants as kind
use Rattle.ent_script.specs.Script.{Script}
use Rattle.ent_script.specs.declared.operation.Operation.{Operation}
use Rattle.ent_script.specs.declared.operation.Operation.TheVariants as operation
use Rattle.spawnrun_lib.specs.IssuedAlone.{NamesNoHandle}
use Rattle.spawnrun_lib.specs.declared.show.Show.TheVariants.{Births}
use Rattle.spawnrun_lib.specs.FrameText.{fault_line}

-- ---- of a script

-- no system of it names an entity by its handle
abbrev pub IsWithoutHandles : Script → Type 0
IsWithoutHandles script = All (All NamesNoHandle) script.frames

-- how many handles an operation requests
abbrev pub requested_by_operation : Operation → ℕ
requested_by_operation (operation.Spawn bundle binds) = 1
requested_by_operation (operation.SpawnMany count bundle binds) = count
requested_by_operation (operation.Insert bundle on) = 0
requested_by_operation (operation.Remove id on) = 0
requested_by_operation (operation.Despawn on) = 0

-- how many all its operations request, of all systems and frames together
abbrev pub requested_in_all : Script → ℕ
requested_in_all script = sum_by (sum_by (sum_by requested_by_operation)) script.frames

-- it requests no more in all than there may be slots
abbrev pub HasEnoughSlots : Script → Type 0
HasEnoughSlots script = requested_in_all script ≤ script.limits.slots

-- ---- of a text

-- the fault is a request that was refused
abbrev pub IsRefusedRequest : FaultKind → Type 0
IsRefusedRequest (kind.NotAlive h) = ⊥
IsRefusedRequest (kind.Space wanted left) = Unit {0}
IsRefusedRequest (kind.Quota left) = Unit {0}

-- a text that is empty or ends with a line end
abbrev pub IsLines : List ℕ → Type 0
IsLines text = (text ≡ []) ⊎ ((earlier : List ℕ) × (text ≡ earlier ++ 10 ∷ []))

-- The text has the line, which has its line end: it is at the beginning or after a line end.
pub record HasLine (text line : List ℕ) : Type 0 where
  pub before : List ℕ
  pub after : List ℕ
  pub lines : IsLines before
  pub is : text ≡ before ++ line ++ after

-- No line of the text is the line of a request that was refused: `fault`, the two numbers, and then
-- `space` or `quota`.
abbrev pub TellsNoRefusal : List ℕ → Type 0
TellsNoRefusal text =
    (fault : Fault) → IsRefusedRequest fault.kind → HasLine text (fault_line Births fault) → ⊥
