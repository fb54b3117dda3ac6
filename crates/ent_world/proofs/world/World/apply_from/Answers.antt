use Rattle.ent_world.proofs.Common.{rules}
use Rattle.ent_world.proofs.Left.{gone_on, gone_on_until}
use Rattle.ent_world.proofs.world.World.apply_from.Goals as goal

pub returns-in-Ok-clause-whole_world : goal.returns-in-Ok-clause-whole_world
returns-in-Ok-clause-whole_world c before earlier stopped = search (rules, gone_on stopped)

pub returns-in-Ok-clause-whole_faults : goal.returns-in-Ok-clause-whole_faults
returns-in-Ok-clause-whole_faults c before earlier stopped = search (rules, gone_on stopped)

pub returns-clause-whole_later : goal.returns-clause-whole_later
returns-clause-whole_later c before earlier stopped =
    let stop = c.in-Err.stop in
    search (
      rules,
      gone_on_until stopped stop.at.system stop.at.command stop.done c.in-Err.ensures.later,
    )
