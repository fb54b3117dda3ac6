-- What the program's words ask for.
use Rattle.std.specs.Prelude.{ℕ, List}
use Rattle.clap.specs.Words.{Text}
use Rattle.spawnrun_lib.specs.declared.task.Task.{Task}
use Rattle.spawnrun_lib.specs.declared.task.Task.TheVariants.{Replay, Run, RunInBlocks}
use Rattle.spawnrun_lib.specs.CommandLine.{AreWorkers, AsksFor}
use Rattle.spawnrun_lib.specs.Replay.{Replays, SpellsNone}
use Rattle.spawnrun_lib.specs.Running.{MeansNone, Runs, RunsInBlocks}
use Rattle.spawnrun_lib.specs.Work.{Refusal}

-- what a task gives for an input
abbrev pub Gives : Task → List ℕ → List ℕ → Type 0
Gives (Replay limits) = Replays limits
Gives (Run workers show) = Runs workers show
Gives (RunInBlocks size workers show) = RunsInBlocks size show

-- how it refuses one
abbrev pub Fails : Task → List ℕ → Refusal → Type 0
Fails (Replay limits) = SpellsNone
Fails (Run workers show) = MeansNone
Fails (RunInBlocks size workers show) = MeansNone

-- whether a task can be done: its workers are in their range
abbrev pub CanDo : Task → Type 0
CanDo (Replay limits) = Unit {0}
CanDo (Run workers show) = AreWorkers workers
CanDo (RunInBlocks size workers show) = AreWorkers workers

-- the words ask for a task of which this holds
abbrev pub AsksTo : List Text → (Task → Type 0) → Type 0
AsksTo words P = (task : Task) × AsksFor words task × P task
