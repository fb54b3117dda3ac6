use Rattle.spawnrun_lib.proofs.Common.{rules}
use Rattle.spawnrun_lib.proofs.NextFrame.{few_systems}
use Rattle.spawnrun_lib.proofs.script_run.report.Goals as goal

pub run_frames-requires-clause-systems : goal.run_frames-requires-clause-systems
run_frames-requires-clause-systems g c κs within = search (rules, few_systems)
