-- The handles that a run gives to its systems.
use Rattle.std.specs.Prelude.{List}
use Rattle.std.specs.List.{flat_map}
use Rattle.ent_handle.specs.Handle.{Handle}
use Rattle.ent_alloc.specs.History.{given_in}
use Rattle.spawnrun_lib.specs.Report.{Execution}

-- the handles of all replies, frame by frame
abbrev pub handles_in_run : List Execution → List Handle
handles_in_run executions = flat_map (λ (e : Execution). given_in e.history) executions
