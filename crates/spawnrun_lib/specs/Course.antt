-- A run of a script on its way: some frames are done. Only private contracts and proofs use this.
use Rattle.std.specs.Prelude.{◌≡◌, ℕ, ◌≤◌, List, length}
use Rattle.std.specs.List.{All}
use Rattle.ent_world.specs.World.{World}
use Rattle.ent_script.specs.Sizes.{most_systems}
use Rattle.ent_script.specs.declared.operation.Operation.{Operation}
use Rattle.spawnrun_lib.specs.declared.show.Show.{Show}
use Rattle.spawnrun_lib.specs.Report.{Execution, AreExecutions, last_world, frames_text}

-- These frames were run from the first world on, and have left this world and this text.
pub record HaveGone (frames : List (List (List Operation))) (workers : ℕ) (show : Show)
    (first now : World) (text : List ℕ) : Type 0 where
  pub executions : List Execution
  pub went : AreExecutions workers first frames executions
  pub world_is : now ≡ last_world first executions
  pub text_is : text ≡ frames_text show 0 first executions

-- no frame has more systems than a frame may have
abbrev pub AreFew : List (List (List Operation)) → Type 0
AreFew frames = All (λ systems. length systems ≤ most_systems) frames
