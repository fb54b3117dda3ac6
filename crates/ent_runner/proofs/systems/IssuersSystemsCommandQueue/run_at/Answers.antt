use Rattle.ent_runner.proofs.Staged.{may_ok, may_err}
use Rattle.ent_runner.proofs.systems.IssuersSystemsCommandQueue.run_at.Goals as goal

pub returns-clause-may : goal.returns-clause-may
returns-clause-may g c empty =
    may_ok (λ s queue. g.T.System.may_issue s c.args.self.now.view queue)
    c.args.self.now.systems.now c.args.number c.index-self-number.result _ c.run.result
    (c.run.ensures.may empty)

pub returns-clause-leaves : goal.returns-clause-leaves
returns-clause-leaves g c empty =
    may_err (λ s queue error. g.T.System.may_leave s c.args.self.now.view queue error)
    c.args.self.now.systems.now c.args.number c.index-self-number.result _ c.run.result
    (c.run.ensures.leaves empty)
