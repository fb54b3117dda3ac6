use Rattle.ent_runner.proofs.Common.{rules}
use Rattle.ent_runner.proofs.Staged.{filled_ok, filled_err}
use Rattle.ent_runner.proofs.stage.SharedStageJobsReserver.run.Goals as goal

pub returns-clause-does : goal.returns-clause-does
returns-clause-does g c =
    let begun = c.new-commands.ensures in
    let ran = c.run_at-ran.ensures in
    filled_ok _ _ _ _ _ _ begun.output ran.extends _ _ _ _ (search rules) (search rules)
    (search rules) (search rules)
    (g.T.Systems.may_fill c.args.self.now.systems.now c.args.number) c.run_at-ran.result
    (search (rules, ran.may begun.output))

pub returns-clause-leaves : goal.returns-clause-leaves
returns-clause-leaves g c =
    let begun = c.new-commands.ensures in
    let ran = c.run_at-ran.ensures in
    filled_err _ _ _ _ _ _ begun.output ran.extends _ _ _ _ (search rules) (search rules)
    (search rules) (search rules)
    (g.T.Systems.may_leave c.args.self.now.systems.now c.args.number) c.run_at-ran.result
    (search (rules, ran.leaves begun.output))
