use Rattle.ent_runner.proofs.Common.{◌∙◌, ap, arith, rules, Claimed}
use Rattle.ent_runner.proofs.Working.{numbers_more, ended_more, stopped_at, on_ok}
use Rattle.ent_runner.proofs.crew.worker.Worker.work.Goals as goal

pub loop-number-preserved : goal.loop-number-preserved
loop-number-preserved g c =
    let i = c.loop-number.invariant in
    let room = on_ok c.reserve.result (search rules) c.reserve.ensures.ok in
    let done = c.reserve.ensures.items ∙ c.push_reserved.ensures.items in
    let r = c.do_job-output.ensures in
    record {
      lent = r.stays;
      claimer = c.next.ensures.stays;
      claimed =
          numbers_more _ _ _ _ _ done i.claimed
          (ap (λ (k : Claimed). k.claims) c.in-Some.ensures.claims);
      ended =
          ended_more (g.J.Steps.may_do c.args.site.now.jobs.now)
          (g.J.Steps.may_leave c.args.site.now.jobs.now) _ _ _ _ _ _ i.ended
          (r.does c.if-stopped.false) done;
      stopped = i.stopped;
      room = omega (arith, room);
    }

pub returns-then-is_err-clause-ended : goal.returns-then-is_err-clause-ended
returns-then-is_err-clause-ended g c =
    let done = c.reserve.ensures.items ∙ c.push_reserved.ensures.items in
    λ _. ended_more (g.J.Steps.may_do c.args.site.now.jobs.now)
    (g.J.Steps.may_leave c.args.site.now.jobs.now) _ _ _ _ _ _
    c.loop-number.invariant.ended (c.do_job-output.ensures.does c.if-stopped.false) done

pub returns-then-stopped-clause-stopped : goal.returns-then-stopped-clause-stopped
returns-then-stopped-clause-stopped g c =
    λ _. stopped_at (g.J.Steps.may_do c.args.site.now.jobs.now)
    (g.J.Steps.may_leave c.args.site.now.jobs.now) _ _ _ _ _ _ c.loop-number.invariant.ended
    (c.do_job-output.ensures.leaves c.if-stopped.true) c.push_reserved.ensures.items
