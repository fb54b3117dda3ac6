use Rattle.ent_runner.proofs.Common.{ap, length, arith}
use Rattle.ent_runner.proofs.Disbanding.{disbanded_on, fewer_on, inside_first, moved_on}
use Rattle.ent_runner.proofs.crew.disband.Goals as goal

pub put_all-requires : goal.put_all-requires
put_all-requires g c = inside_first _ c.next.new.self.rest.items _ _ c.in-Some.ensures.steps.0
    c.loop-worker.invariant.inside

pub loop-worker-preserved : goal.loop-worker-preserved
loop-worker-preserved g c =
    let i = c.loop-worker.invariant in
    let front = c.in-Some.ensures.steps.0 in
    let next = disbanded_on _ _ _ _ _ _ _ front i.all c.put_all.ensures i.inside in
    let p = c.push_reserved.ensures in
    let less = ap length front in
    record {
      all = next.all;
      claimers = moved_on (λ w. w.claimer) _ _ _ _ i.claimers p.items;
      by_number = next.outputs_are _ (rw front at i.by_number);
      inside = next.inside;
      lacking =
          fewer_on _ _ _ _ _ _ _ front
          (rw (c.len.ensures, c.in-Some.worker.done.ok.0) at c.saturating_sub-lacking.ensures)
          i.lacking;
      claimers_fit = omega (arith, less, p.len, p.capacity, i.claimers_fit);
    }
