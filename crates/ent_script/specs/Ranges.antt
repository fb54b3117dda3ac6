-- The ranges of what a script says.
use Rattle.std.specs.Prelude.{ℕ, ◌+◌, ◌<◌, ◌≤◌, ℤ, List, [], ◌∷◌, length, Option, Some, None}
use Rattle.std.specs.List.{AllByRecursion}
use Rattle.ent_alloc.specs.Limits.{AreLimits}
use Rattle.ent_handle.specs.declared.birth.Birth.{Birth}
use Rattle.ent_handle.specs.declared.component.ComponentId.{ComponentId}
use Rattle.ent_script.specs.Script.{Script}
use Rattle.ent_script.specs.Sizes.{most_components, most_frames, most_systems, most_operations}
use Rattle.ent_script.specs.Sizes.{most_spawned}
use Rattle.ent_script.specs.declared.operation.Operation.{Operation}
use Rattle.ent_script.specs.declared.operation.Operation.TheVariants as operation
use Rattle.ent_script.specs.declared.target.Target.{Target}
use Rattle.ent_script.specs.declared.target.Target.TheVariants as target

-- each of them with its number, if the first one has this number
abbrev pub AllFrom : {A : Type 0} → (ℕ → A → Type 0) → ℕ → List A → Type 0
AllFrom P n [] = Unit {0}
AllFrom P n (x ∷ xs) = P n x × AllFrom P (n + 1) xs

-- each component is one of that many
abbrev pub IsBundleOf : ℕ → List (ComponentId × ℤ) → Type 0
IsBundleOf components bundle = AllByRecursion (λ item. item.0.0 < components) bundle

-- ---- names: before operation n of a system, at most n names are bound

-- one of these, or the next
abbrev pub IsBindingAt : ℕ → Option ℕ → Type 0
IsBindingAt n None = Unit {0}
IsBindingAt n (Some name) = name ≤ n

-- a birth of a frame before this one, and of a system that a frame may have
abbrev pub IsBirthBefore : ℕ → Birth → Type 0
IsBirthBefore frame birth = (birth.frame < frame) × (birth.system < most_systems)

-- in operation n of a system of this frame
abbrev pub IsTargetAt : ℕ → ℕ → ℕ → Target → Type 0
IsTargetAt components frame n (target.Name name) = name < n
IsTargetAt components frame n (target.Handle h) = Unit {0}
IsTargetAt components frame n (target.Each c) = c.0 < components
IsTargetAt components frame n (target.Birth birth) = IsBirthBefore frame birth

-- operation n of its system
abbrev pub IsOperationAt : ℕ → ℕ → ℕ → Operation → Type 0
IsOperationAt components frame n (operation.Spawn bundle binds) =
    IsBundleOf components bundle × IsBindingAt n binds
IsOperationAt components frame n (operation.SpawnMany count bundle binds) =
    (count ≤ most_spawned) × IsBundleOf components bundle × IsBindingAt n binds
IsOperationAt components frame n (operation.Insert bundle on) =
    IsBundleOf components bundle × IsTargetAt components frame n on
IsOperationAt components frame n (operation.Remove c on) =
    (c.0 < components) × IsTargetAt components frame n on
IsOperationAt components frame n (operation.Despawn on) = IsTargetAt components frame n on

-- a system of this frame
abbrev pub IsSystemOf : ℕ → ℕ → List Operation → Type 0
IsSystemOf components frame operations =
    (length operations ≤ most_operations) × AllFrom (IsOperationAt components frame) 0 operations

-- the frame with this number
abbrev pub IsFrameOf : ℕ → ℕ → List (List Operation) → Type 0
IsFrameOf components frame systems =
    (length systems ≤ most_systems) × AllByRecursion (IsSystemOf components frame) systems

pub record IsScript (s : Script) : Type 0 where
  pub limits : AreLimits s.limits
  pub components : length s.components ≤ most_components
  pub count : length s.frames ≤ most_frames
  pub frames : AllFrom (IsFrameOf (length s.components)) 0 s.frames
