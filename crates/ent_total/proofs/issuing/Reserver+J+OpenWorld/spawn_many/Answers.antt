use Rattle.ent_total.proofs.Common.{rules}
use Rattle.ent_total.proofs.Recorded.{extends_issued, recorded_many}
use Rattle.ent_total.proofs.issuing.Reserver+J+OpenWorld.spawn_many.Goals as goal

pub returns-clause-recorded : goal.returns-clause-recorded
returns-clause-recorded g c =
    search (
      rules,
      recorded_many c.resume-commands.result.source.now c.resume-commands.result.reserver.now
          c.spawn_many_with-spawned.new.self.reserver.now c.args.n c.spawn_many_with-spawned.result
          c.spawn_many_with-spawned.ensures.replies c.spawn_many_with-spawned.ensures.memory,
    )

pub returns-clause-extends : goal.returns-clause-extends
returns-clause-extends g c =
    search (
      rules,
      extends_issued c.resume-commands.result c.spawn_many_with-spawned.new.self
          c.spawn_many_with-spawned.ensures.extends,
    )
