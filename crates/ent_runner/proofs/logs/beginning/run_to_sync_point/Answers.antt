use Rattle.ent_runner.proofs.logs.beginning.run_to_sync_point.Goals as goal

pub returns-in-Ok-begin_reserved-clause-alive : goal.returns-in-Ok-begin_reserved-clause-alive
returns-in-Ok-begin_reserved-clause-alive g c = rw c.in-Ok-begin_reserved.ensures.entries
    c.in-Ok-begin_reserved.ensures.alive
