use Rattle.ent_world.proofs.Common.{ap, World, cut}
use Rattle.ent_world.proofs.Worlds.{commands-world}
use Rattle.ent_world.proofs.world.World.apply.Goals as goal

-- commands of a world that was flushed leave one
pub returns-in-Ok-applied-clause-world : goal.returns-in-Ok-applied-clause-world
returns-in-Ok-applied-clause-world c = commands-world c.args.queues.now
    c.new-applying.result.faults.items c.in-Ok-applied.ensures.ok c.in-Ok.ensures.world
    (ap (λ (w : World). w.allocator.asked) c.in-Ok.ensures.ok)

pub returns-clause-world : goal.returns-clause-world
returns-clause-world c =
    let stop = c.in-Err.stop in
    commands-world (cut stop.at.system stop.at.command stop.done c.args.queues.now)
    c.new-applying.result.faults.items
    c.in-Err.ensures.err c.in-Ok.ensures.world
    (ap (λ (w : World). w.allocator.asked) c.in-Ok.ensures.ok)
