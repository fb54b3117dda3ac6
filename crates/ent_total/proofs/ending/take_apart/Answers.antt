use Rattle.ent_total.proofs.Common.{arith, refl}
use Rattle.ent_total.specs.Issuing.{Issuer}
use Rattle.ent_total.proofs.Walking.{went_on, moved_on}
use Rattle.ent_total.proofs.ending.take_apart.Goals as goal

pub loop-reserver-preserved : goal.loop-reserver-preserved
loop-reserver-preserved c =
    let i = c.loop-reserver.invariant in
    let p = c.push_reserved.ensures in
    let q = c.push_reserved-in-loop-reserver.ensures in
    let w = went_on _ _ _ _ c.in-Some.ensures.steps.0 _ i.all in
    record {
      all = w.0;
      reservers = moved_on _ _ (λ (c : Issuer). c.0) _ _ _ _ refl i.reservers p.items;
      queues = moved_on _ _ (λ (c : Issuer). c.1) _ _ _ _ refl i.queues q.items;
      room = omega (arith, w.1, p.len, p.capacity, i.room);
      queue_room = omega (arith, w.1, q.len, q.capacity, i.queue_room);
    }
