use Rattle.ent_total.proofs.Common.{rules, arith, refl, ◌≡◌, take_all, All-more}
use Rattle.ent_total.specs.Phases.{Reserver}
use Rattle.ent_total.proofs.lending.are_of.Goals as goal

pub loop-reserver-preserved : goal.loop-reserver-preserved
loop-reserver-preserved g c = (
  All-more (λ (d : Reserver _ _). d.number ≡ c.args.phase.now.number) c.args.reservers.now
      c.loop-reserver.reserver-index c.reserver-item.result c.loop-reserver-test.true
      c.loop-reserver.invariant.0 (search rules),
  All-more (λ (d : Reserver _ _). d.source ≡ c.args.phase.now.source) c.args.reservers.now
      c.loop-reserver.reserver-index c.reserver-item.result c.loop-reserver-test.true
      c.loop-reserver.invariant.1 (search rules),
)

pub returns-clause-number : goal.returns-clause-number
returns-clause-number g c =
    let all = rw (take_all c.loop-reserver.reserver-index c.args.reservers.now (omega arith)) at
    c.loop-reserver.invariant.0 in
    (λ _. all, λ _. refl)

pub returns-clause-source : goal.returns-clause-source
returns-clause-source g c =
    let all = rw (take_all c.loop-reserver.reserver-index c.args.reservers.now (omega arith)) at
    c.loop-reserver.invariant.1 in
    λ _. all
