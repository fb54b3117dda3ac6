use Rattle.ent_log.proofs.InTurn.{TakesAll-of_view, FailsAt-of_view}
use Rattle.ent_log.proofs.sync_point.SyncPoint.apply.Goals as goal

pub returns-clause-all : goal.returns-clause-all
returns-clause-all g c =
    TakesAll-of_view (goal.F-step g) _ _ _ _ _ _ c.self.view_is c.hand_on.ensures.all

pub returns-clause-fails : goal.returns-clause-fails
returns-clause-fails g c =
    FailsAt-of_view (goal.F-step g) _ _ _ _ _ _ _ c.self.view_is c.hand_on.ensures.fails
