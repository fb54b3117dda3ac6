use Rattle.spawnrun_lib.proofs.Common.{rules, take_all}
use Rattle.spawnrun_lib.proofs.Parts.{appends_none, appends_on}
use Rattle.spawnrun_lib.proofs.output.write_text.Goals as goal

pub loop-part-init : goal.loop-part-init
loop-part-init g c = search (rules, appends_none)

pub loop-part-preserved : goal.loop-part-preserved
loop-part-preserved g c = search (rules, appends_on)

pub returns-clause-written : goal.returns-clause-written
returns-clause-written g c is = search (rules, take_all)
