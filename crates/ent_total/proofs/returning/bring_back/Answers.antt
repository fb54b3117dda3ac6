use Rattle.ent_total.proofs.Common.{◌≡◌, ◌∙◌, ap, subst, arith, All-push, All-same}
use Rattle.ent_total.specs.Phases.{Reserver}
use Rattle.ent_total.proofs.Walking.{one_phase, walked, moved_on}
use Rattle.ent_total.proofs.returning.bring_back.Goals as goal

pub loop-reserver-preserved : goal.loop-reserver-preserved
loop-reserver-preserved g c =
    let i = c.loop-reserver.invariant in
    let r = c.reserver.inside.reserver in
    let p = c.push_reserved.ensures in
    let view_is = c.reserver.view_is in
    let serves = g.S.Source.serves in
    let w =
    walked _ _ _ _ c.in-Some.ensures.steps.0 _ i.all
    (λ (d : Reserver _ _). d.number ≡ c.args.number) i.of in
    let same =
    one_phase (g.J.Numbering.phase_of _) _ _ _ _
    (ap (λ (d : Reserver _ _). d.number) view_is ∙ w.1)
    c.reserver.invariant.0 c.requires.stands_for in
    record {
      all = w.0;
      items = moved_on _ _ (λ (d : Reserver _ _). d.reserver) _ _ _ _ view_is i.items p.items;
      own =
          All-same (serves c.args.source.now) _ _ p.items
          (All-push (serves c.args.source.now) _ r i.own
          (subst (λ t. serves t r) same c.reserver.invariant.1));
      of = w.2;
      room = omega (arith, w.3, p.len, p.capacity, i.room);
      capacity = p.capacity ∙ i.capacity;
    }
