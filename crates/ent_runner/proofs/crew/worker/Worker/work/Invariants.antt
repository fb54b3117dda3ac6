use Rattle.ent_runner.proofs.Common.{◌≡◌, ◌-◌, ◌<◌, length, vec_capacity, IsClaimerOf, numbers_of}
use Rattle.ent_runner.proofs.Common.{HaveEnded, vec_len}
use Rattle.ent_runner.proofs.crew.worker.Worker.work.Given as goal

-- so far it has done what it claimed
abbrev pub invariant-loop-number : goal.invariant-loop-number
invariant-loop-number g l = record {
  lent : g.J.Steps.may_have l.site.jobs.now l.lent;
  claimer : IsClaimerOf l.site.claims.now l.self.claimer;
  claimed : numbers_of l.self.done.items ≡ l.self.claimer.own.claims;
  ended : HaveEnded (g.J.Steps.may_do l.site.jobs.now) l.initial.lent l.self.done.items l.lent;
  stopped : l.self.stopped ≡ l.initial.self.stopped;
  room : vec_len l.self.done < vec_capacity l.self.done;
}

-- how many numbers it may still claim
abbrev pub decreases-loop-number : goal.decreases-loop-number
decreases-loop-number g l = l.site.claims.now.numbers - length l.self.claimer.own.claims
