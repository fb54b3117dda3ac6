use Rattle.ent_total.proofs.Common.{rules}
use Rattle.ent_total.proofs.Recorded.{extends_issued, given_one, refused_one, recorded_one}
use Rattle.ent_total.proofs.issuing.Reserver+J+OpenWorld.spawn.Goals as goal

pub returns-clause-given : goal.returns-clause-given
returns-clause-given g c =
    search (
      rules,
      given_one c.resume-commands.result.source.now c.resume-commands.result.reserver.now
          c.spawn_with-spawned.new.self.reserver.now c.spawn_with-spawned.result
          c.spawn_with-spawned.ensures.replies,
    )

pub returns-clause-refusal : goal.returns-clause-refusal
returns-clause-refusal g c =
    search (
      rules,
      refused_one c.resume-commands.result.source.now c.resume-commands.result.reserver.now
          c.spawn_with-spawned.new.self.reserver.now c.spawn_with-spawned.result
          c.spawn_with-spawned.ensures.replies,
    )

pub returns-clause-recorded : goal.returns-clause-recorded
returns-clause-recorded g c =
    search (
      rules,
      recorded_one c.resume-commands.result.source.now c.resume-commands.result.reserver.now
          c.spawn_with-spawned.new.self.reserver.now c.spawn_with-spawned.result
          c.spawn_with-spawned.ensures.replies c.spawn_with-spawned.ensures.memory,
    )

pub returns-clause-extends : goal.returns-clause-extends
returns-clause-extends g c =
    search (
      rules,
      extends_issued c.resume-commands.result c.spawn_with-spawned.new.self
          c.spawn_with-spawned.ensures.extends,
    )
