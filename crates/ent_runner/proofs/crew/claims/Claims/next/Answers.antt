use Rattle.ent_runner.proofs.Common.{◌<◌, ap, subst, Claims}
use Rattle.ent_runner.proofs.Claiming.{claimed_on}
use Rattle.ent_runner.proofs.crew.claims.Claims.next.Goals as goal

pub returns-then-found-self-clause-stays : goal.returns-then-found-self-clause-stays
returns-then-found-self-clause-stays c =
    let numbers = ap (λ (s : Claims). s.numbers) c.self.view_is in
    claimed_on c.args.self.now c.claimer.inside.token.views c.claim-found.new.token.views _ _ _ _
    c.claimer.view_is
    c.requires c.claim-found.ensures.same c.claim-found.ensures.claims
    (subst (λ k. c.claim-found.result < k) numbers
    c.if-found-self.true) c.claim-found.ensures.above
