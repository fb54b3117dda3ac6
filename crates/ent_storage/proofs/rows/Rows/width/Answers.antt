use Rattle.ent_storage.proofs.Common.{◌≡◌, ap, ◌∙◌, arith, rules, width, width_below}
use Rattle.ent_storage.proofs.ImageWidth.{within}
use Rattle.ent_storage.proofs.rows.Rows.width.Goals as goal

pub returns-clause-value : goal.returns-clause-value
unfolding width
returns-clause-value c = let all : c.loop-number.number ≡ 256 = omega arith in search rules

pub returns-clause-within : goal.returns-clause-within
unfolding width
returns-clause-within c h id v is =
    let below =
    within _ _ _ _ c.self.invariant.indexed c.self.view_is 256 (omega arith)
    c.beyond.ensures.within h id v
    is in
    let all : c.loop-number.number ≡ 256 = omega arith in
    rw
    (c.loop-number.invariant.width
    ∙ ap (width_below c.args.self.now.entities c.args.self.now.places) all) below
