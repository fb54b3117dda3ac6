use Rattle.ent_total.proofs.Common.{rules, IsOf, All-map}
use Rattle.ent_total.specs.Issuing.{Issuer}
use Rattle.ent_total.proofs.ending.parts_of.Goals as goal

pub returns-clause-own : goal.returns-clause-own
returns-clause-own c =
    let all =
    All-map (IsOf c.args.opened.world.shared) (λ (c : Issuer). c.0) c.args.callers.items
    c.requires.own in
    search (rules, c.take_apart.ensures.reservers, all)
