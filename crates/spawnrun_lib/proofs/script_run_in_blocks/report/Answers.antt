use Rattle.spawnrun_lib.proofs.Common.{rules, map, string_bytes, IfOk-weaker}
use Rattle.spawnrun_lib.proofs.NextFrame.{few_systems, text_in_blocks}
use Rattle.spawnrun_lib.proofs.script_run_in_blocks.report.Goals as goal

pub returns : goal.returns
returns g c = IfOk-weaker c.with_world.result _ _
    (λ all wrote. search (
      rules,
      text_in_blocks c.args.script c.args.size c.args.show c.new-world.result c.in_ok-world.world
          c.into_parts-limits.result.2.items (map string_bytes c.deref.result.now)
          c.in_ok-world.text.items wrote.0 all c.in_ok-world.ensures.went,
      wrote,
    )) c.with_world.ensures

pub run_frames-requires-clause-systems : goal.run_frames-requires-clause-systems
run_frames-requires-clause-systems g c κs within = search (rules, few_systems)
