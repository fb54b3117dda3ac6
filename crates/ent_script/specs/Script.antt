-- What a script is.
use Rattle.std.specs.Prelude.{ℕ, List}
use Rattle.ent_alloc.specs.Limits.{Limits}
use Rattle.ent_script.specs.declared.operation.Operation.{Operation}

-- a frame is a list of systems, and a system a list of operations
pub record Script : Type 0 where
  pub limits : Limits
  pub components : List (List ℕ)
  pub frames : List (List (List Operation))
