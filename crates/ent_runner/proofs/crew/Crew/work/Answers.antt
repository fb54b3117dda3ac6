use Rattle.ent_runner.proofs.Common.{◌≡◌, ◌<◌, ◌⊎◌, ◌∙◌, ap, true, length, arith, take, drop, ◌++◌}
use Rattle.ent_runner.proofs.Common.{◌-◌, inl, inr, length-replicate, replicate, map, Some, sym}
use Rattle.ent_runner.proofs.Common.{append-nil, None, Crew, HaveDoneFirst, IsLostFor, all_done}
use Rattle.ent_runner.proofs.Common.{outputs_put}
use Rattle.ent_runner.proofs.Conducting.{written_back, outputs_back, all_claimed, numbers_below}
use Rattle.ent_runner.proofs.Conducting.{claimers_own, first_closed, stay, are_broken_off, are_done}
use Rattle.ent_runner.proofs.Conducting.{all_there, some_jobs}
use Rattle.ent_runner.proofs.EachOutput.{done_made}
use Rattle.ent_runner.proofs.crew.Crew.work.Given as given
use Rattle.ent_runner.proofs.crew.Crew.work.Goals.{After-close, then-stopped-via-then-stopped}
use Rattle.ent_runner.proofs.crew.Crew.work.Goals.{then-stopped-via-else-stopped+then-lacking-gt0}
use Rattle.ent_runner.proofs.crew.Crew.work.Goals as goal

jobs_end : (g : given.Over) (c : After-close g) → c.args.self.jobs ≡ c.self.inside.claims.numbers
jobs_end g c = cc (ap (λ (k : Crew). k.jobs) c.self.view_is)

-- the workers are written back
team_end : (g : given.Over) (c : After-close g)
    → take c.self.inside.workers.len
    (c.run_all.new.workers ++ drop (length c.run_all.new.workers) c.self.inside.workers.items)
    ≡ c.run_all.new.workers
team_end g c = written_back _ _ _ c.self.inside.workers.ok.0
    (omega (arith, ap (λ (k : Crew). k.workers) c.self.view_is))

first : (g : given.Over) (c : After-close g)
    → HaveDoneFirst c.self.inside.claims.numbers c.run_all.new.workers
first g c =
    first_closed c.self.inside.claims c.run_all.new.workers
    (all_claimed _ _ _ _ _ _ _ c.run_all.ensures) c.disband-lacking.new.claimers.items
    (rw (team_end g c) at c.disband-lacking.ensures.claimers)
    (omega (arith, ap (λ (k : Crew). k.workers) c.self.view_is)) c.close.ensures.first

pub disband-lacking-requires-clause-inside : goal.disband-lacking-requires-clause-inside
disband-lacking-requires-clause-inside g c =
    let many : length c.deref_mut-2.result.now ≡ c.self.inside.claims.numbers =
    ap length c.deref_mut-2.ensures.value
    ∙ (ap length c.self.invariant.by_number_empty
    ∙ length-replicate c.self.inside.claims.numbers _) in
    rw (
      written_back _ _ c.run_all.new.workers c.self.inside.workers.ok.0
          (omega (arith, ap (λ (k : Crew). k.workers) c.self.view_is)),
      many,
    )
    (numbers_below _ _ (all_claimed _ _ _ _ _ _ _ c.run_all.ensures))

pub close-requires-clause-own : goal.close-requires-clause-own
close-requires-clause-own g c = rw (
  c.disband-lacking.ensures.claimers,
  written_back _ _ c.run_all.new.workers c.self.inside.workers.ok.0
      (omega (arith, ap (λ (k : Crew). k.workers) c.self.view_is)),
)
    (claimers_own _ _ (all_claimed _ _ _ _ _ _ _ c.run_all.ensures))

pub returns-then-stopped-clause-lent : goal.returns-then-stopped-clause-lent
returns-then-stopped-clause-lent g c = stay _ _ _ _ _ _ _ c.run_all.ensures

pub returns-clause-lent : goal.returns-clause-lent
returns-clause-lent g c = stay _ _ _ _ _ _ _ c.run_all.ensures

-- how many outputs are lacking
short : (g : given.Over) (c : After-close g) → c.disband-lacking.result
    ≡ c.self.inside.claims.numbers - length (all_done c.run_all.new.workers)
short g c =
    let many : length c.deref_mut-2.result.now ≡ c.self.inside.claims.numbers =
    ap length c.deref_mut-2.ensures.value
    ∙ (ap length c.self.invariant.by_number_empty
    ∙ length-replicate c.self.inside.claims.numbers _) in
    rw (many, team_end g c) at c.disband-lacking.ensures.lacking

-- the outputs by number, as they are written back
put : (g : given.Over) (c : After-close g)
    → take c.self.inside.by_number.len
    (c.disband-lacking.new.by_number
    ++ drop (length c.disband-lacking.new.by_number) c.self.inside.by_number.items)
    ≡ outputs_put (all_done c.run_all.new.workers) (replicate c.self.inside.claims.numbers None)
put g c =
    outputs_back _ _ (all_done c.run_all.new.workers) _ _ c.self.invariant.by_number_empty
    c.self.inside.by_number.ok.0
    (rw (c.deref_mut-2.ensures.value, team_end g c) at c.disband-lacking.ensures.by_number)

-- why some are left
lost : (g : given.Over) (c : After-close g)
    → (c.some_stopped-stopped.result ≡ true) ⊎ (0 < c.disband-lacking.result)
    → IsLostFor c.self.inside.claims.numbers c.run_all.new.workers
lost g c (inl stopped) =
    inl (rw (c.deref.ensures.value, team_end g c) at (c.some_stopped-stopped.ensures.some stopped))
lost g c (inr lacking) = inr (omega (arith, short g c, lacking))

pub returns-then-stopped-clause-broken_off : goal.returns-then-stopped-clause-broken_off
returns-then-stopped-clause-broken_off g c =
    let b = (goal.at.returns-then-stopped-clause-broken_off g c).After-close in
    let why : (b.some_stopped-stopped.result ≡ true)
    ⊎ (0 < b.disband-lacking.result) = elim c.then-stopped.branch [
      | then-stopped-via-then-stopped w ↦ inl w.if-stopped.true
      | then-stopped-via-else-stopped+then-lacking-gt0 w ↦ inr w.if-lacking-gt0.true
    ] in
    rw (jobs_end g b)
    (are_broken_off _ _ _ _ _ _ _ c.run_all.ensures (first g b) (lost g b why) _ (put g b))

pub returns-then-stopped-clause-some : goal.returns-then-stopped-clause-some
returns-then-stopped-clause-some g c =
    let b = (goal.at.returns-then-stopped-clause-some g c).After-close in
    let why : (b.some_stopped-stopped.result ≡ true)
    ⊎ (0 < b.disband-lacking.result) = elim c.then-stopped.branch [
      | then-stopped-via-then-stopped w ↦ inl w.if-stopped.true
      | then-stopped-via-else-stopped+then-lacking-gt0 w ↦ inr w.if-lacking-gt0.true
    ] in
    rw (jobs_end g b) (some_jobs _ _ _ _ _ _ _ c.run_all.ensures (lost g b why))

pub collect-requires-clause-all : goal.collect-requires-clause-all
collect-requires-clause-all g c =
    let b = (goal.at.collect-requires-clause-all g c).After-close in
    rw (put g b) (all_there c.self.inside.claims.numbers c.run_all.new.workers (first g b)
    (omega (arith, short g b, c.if-lacking-gt0.false)))

pub returns-clause-done : goal.returns-clause-done
returns-clause-done g c =
    let b = (goal.at.returns-clause-done g c).After-close in
    let collected = c.collect.ensures in
    rw (jobs_end g b, collected.outputs_are)
    (done_made (g.J.Jobs.may_do c.args.jobs.now) _ _ _ _
    (are_done _ _ _ _ _ _ _ c.run_all.ensures (first g b)
    (rw (c.deref.ensures.value, team_end g b) at
    (c.some_stopped-stopped.ensures.going c.if-stopped.false)) _
    (sym (append-nil (map Some collected.made)) ∙ (collected.all ∙ put g b))))
