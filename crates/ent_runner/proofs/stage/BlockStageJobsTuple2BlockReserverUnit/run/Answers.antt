use Rattle.ent_runner.proofs.Common.{rules, arith, get_or_from_slice_get, IsOfPhase}
use Rattle.ent_runner.proofs.Staged.{dealt_ok, dealt_err}
use Rattle.ent_runner.proofs.stage.BlockStageJobsTuple2BlockReserverUnit.run.Given as given
use Rattle.ent_runner.proofs.stage.BlockStageJobsTuple2BlockReserverUnit.run.Goals.{After-again-reserver}
use Rattle.ent_runner.proofs.stage.BlockStageJobsTuple2BlockReserverUnit.run.Goals as goal

-- the reserver of this number is of the phase
own : (g : given.Over) (c : After-again-reserver g)
    → IsOfPhase c.args.self.now.blocks.now c.again-reserver.result
own g c =
    let at =
    c.requires.lent.of_phase c.args.number c.index-self-number.result
    (omega (arith, c.requires.number, c.requires.lent.count)) in
    search (rules, at, get_or_from_slice_get)

pub new-commands-requires : goal.new-commands-requires
new-commands-requires g c = own g (goal.at.new-commands-requires g c).After-again-reserver

pub run_at-ran-requires-clause-ready : goal.run_at-ran-requires-clause-ready
run_at-ran-requires-clause-ready g c =
    rw (c.new-commands.ensures.source, c.new-commands.ensures.reserver)
    (own g (goal.at.run_at-ran-requires-clause-ready g c).After-again-reserver)

pub returns-clause-does : goal.returns-clause-does
returns-clause-does g c =
    let begun = c.new-commands.ensures in
    let ran = c.run_at-ran.ensures in
    dealt_ok _ _ c.args.self.now.blocks.now c.args.self.now.reservers.now c.args.number _ _
    begun.output ran.extends
    begun.source (λ r at. search (rules, get_or_from_slice_get)) _ _ (search rules) (search rules) _
    c.run_at-ran.result
    (search (rules, ran.may begun.output))

pub returns-clause-leaves : goal.returns-clause-leaves
returns-clause-leaves g c =
    let begun = c.new-commands.ensures in
    let ran = c.run_at-ran.ensures in
    dealt_err _ _ c.args.self.now.blocks.now c.args.self.now.reservers.now c.args.number _ _
    begun.output ran.extends
    begun.source (λ r at. search (rules, get_or_from_slice_get)) _ _ (search rules) (search rules) _
    c.run_at-ran.result
    (search (rules, ran.leaves begun.output))
