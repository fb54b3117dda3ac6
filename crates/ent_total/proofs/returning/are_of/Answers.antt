use Rattle.ent_total.proofs.Common.{rules, arith, refl, ◌≡◌, take_all, All-more}
use Rattle.ent_total.specs.Phases.{Reserver}
use Rattle.ent_total.proofs.returning.are_of.Goals as goal

pub loop-reserver-preserved : goal.loop-reserver-preserved
loop-reserver-preserved g c =
    All-more (λ (d : Reserver _ _). d.number ≡ c.args.number) c.args.reservers.now
    c.loop-reserver.reserver-index c.reserver-item.result c.loop-reserver-test.true
    c.loop-reserver.invariant (search rules)

pub returns : goal.returns
returns g c =
    let all = rw (take_all c.loop-reserver.reserver-index c.args.reservers.now (omega arith)) at
    c.loop-reserver.invariant in
    (λ _. all, λ _. refl)
