use Rattle.ent_runner.proofs.Common.{rules, ◌≡◌, ◌∙◌, ap, length, refl, length-map, IfOk, IfErr}
use Rattle.ent_runner.proofs.Common.{first_error, IfOk-weaker, IfErr-weaker, Reserver, records_of}
use Rattle.ent_runner.proofs.Common.{HaveLogged, inl, inr}
use Rattle.ent_runner.specs.Logs.{IsBrokenOff}
use Rattle.ent_runner.proofs.Conducting.{written_back}
use Rattle.ent_runner.proofs.Logged.{all_gained, some_gained, ran}
use Rattle.ent_runner.proofs.Nothing.{logged_nothing}
use Rattle.ent_runner.proofs.Reserved.{reserved_all}
use Rattle.ent_runner.proofs.logs.run_logs.Given as given
use Rattle.ent_runner.proofs.logs.run_logs.Goals.{After-close}
use Rattle.ent_runner.proofs.logs.run_logs.Goals as goal

-- the allocator that was shared is the one before
same : (g : given.Over) (c : After-close g)
    → c.in-Ok-share.made.0.start ≡ c.args.entities.now.allocator
same g c = search rules

-- the crew has worked, and the allocator was closed
closed : (g : given.Over) (c : After-close g)
    → IfOk c.work-logs.result
    (λ logs. HaveLogged g.S.LogSystem.may_log c.args.systems.now c.args.workers
    c.args.entities.now.allocator logs.items c.close.result.allocator)
    × IfErr c.work-logs.result
    (λ left. IsBrokenOff g.S.LogSystem.may_log g.S.LogSystem.may_leave c.args.systems.now
    c.args.workers c.args.entities.now.allocator c.close.result.allocator (first_error left.items))
closed g c =
    let own = λ (r : Reserver). r.own in
    let e = c.close.ensures in
    let w = c.work-logs.ensures in
    let may = g.S.LogSystem.may_log in
    let leave = g.S.LogSystem.may_leave in
    let back = written_back _ _ c.work-logs.new.lent c.in-Ok-share.made.1.ok.0
    (w.count ∙ ap length c.deref_mut.ensures.value) in
    let many : length c.deref_mut.result.now ≡ c.args.workers =
    rw c.deref_mut.ensures.value (search rules) in
    ran c.args.entities.now.allocator c.close.result.allocator c.args.workers
    (records_of c.deref_mut.result.now)
    (records_of c.work-logs.new.lent) (rw c.deref_mut.ensures.value (search rules))
    (length-map c.deref_mut.result.now own ∙ many)
    (length-map c.work-logs.new.lent own ∙ (w.count ∙ many))
    (rw (back, same g c) at e.legal) (rw back at e.respects) (rw (back, same g c) at e.after) may
    leave c.args.systems.now c.work-logs.result _ (search rules)
    (IfOk-weaker c.work-logs.result _ _
    (λ logs. all_gained may c.args.systems.now c.in-Ok-share.made.0 _
    c.deref_mut.result.now logs.items c.work-logs.new.lent) w.done)
    (IfErr-weaker c.work-logs.result _ _
    (λ left. some_gained may c.args.systems.now c.in-Ok-share.made.0 leave _
    c.deref_mut.result.now left.items c.work-logs.new.lent) w.broken_off)

pub returns-in-Ok-logs-clause-ok : goal.returns-in-Ok-logs-clause-ok
returns-in-Ok-logs-clause-ok g c =
    rw c.in-Ok-logs.is at ((closed g (goal.at.returns-in-Ok-logs-clause-ok g c).After-close).0)

pub returns-in-Err-logs-clause-lost : goal.returns-in-Err-logs-clause-lost
returns-in-Err-logs-clause-lost g c =
    rw c.first_error.ensures
    (rw c.in-Err-logs.is at
    ((closed g (goal.at.returns-in-Err-logs-clause-lost g c).After-close).1))

pub returns-in-Ok-logs-clause-reserved : goal.returns-in-Ok-logs-clause-reserved
returns-in-Ok-logs-clause-reserved g c =
    reserved_all _ _ _ _ _ (returns-in-Ok-logs-clause-ok g c).run
    (rw (same g (goal.at.returns-in-Ok-logs-clause-reserved g c).After-close) at
    c.in-Ok-share.ensures.sound) (search rules)

pub close-requires-clause-own : goal.close-requires-clause-own
close-requires-clause-own g c =
    let w = c.work-logs.ensures in
    rw (written_back _ _ c.work-logs.new.lent c.in-Ok-share.made.1.ok.0
    (w.count ∙ ap length c.deref_mut.ensures.value)) w.lent

pub returns-then-is_empty-clause-ok : goal.returns-then-is_empty-clause-ok
returns-then-is_empty-clause-ok g c = logged_nothing _ _ _ _ _ _ (search rules) (search rules) refl

pub returns-in-Err-logs-clause-no_crew : goal.returns-in-Err-logs-clause-no_crew
returns-in-Err-logs-clause-no_crew g c = (
  λ e. absurd cc,
  λ w.
      elim w.1 [
        | inl none ↦ absurd (search (rules, none, c.if-workers-eq0.false))
        | inr many ↦ absurd (search (rules, many, c.if-workers-gt-WORKERS.false))
      ],
)
