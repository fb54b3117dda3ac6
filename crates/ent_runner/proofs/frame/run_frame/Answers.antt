use Rattle.ent_runner.proofs.Common.{rules, ◌≡◌, ◌∙◌, ap, length, length-map, Reserver, records_of}
use Rattle.ent_runner.proofs.Common.{sym, world_at_start, IfOk-weaker, IfErr-weaker}
use Rattle.ent_runner.proofs.Alone.{ends_in_order}
use Rattle.ent_runner.proofs.Conducting.{written_back}
use Rattle.ent_runner.proofs.Framed.{all_gained, some_gained, ClosedAgain, closed_again, lost_again}
use Rattle.ent_runner.proofs.Framed.{broken_again, framed_again, stops_at, view_is}
use Rattle.ent_runner.proofs.NoSystems.{ends_none}
use Rattle.ent_runner.proofs.frame.run_frame.Given as given
use Rattle.ent_runner.proofs.frame.run_frame.Goals.{In-Ok-open, After-close}
use Rattle.ent_runner.proofs.frame.run_frame.Goals as goal

-- the world that was opened is the one before
same : (g : given.Over) (c : In-Ok-open g) → world_at_start c.in-Ok-open.made.0 ≡ c.args.world.now
same g c = search rules

-- the crew has worked, and the world was closed
closed : (g : given.Over) (c : After-close g)
    → ClosedAgain g.S.System.may_issue g.S.System.may_leave c.args.systems.now c.in-Ok-open.made.0
    c.close.result c.work-queues.result
closed g c =
    let e = c.close.ensures in
    let w = c.work-queues.ensures in
    let own = λ (r : Reserver). r.own in
    let may = g.S.System.may_issue in
    let leave = g.S.System.may_leave in
    let back = written_back _ _ c.work-queues.new.lent c.in-Ok-open.made.1.ok.0
    (w.count ∙ ap length c.deref_mut.ensures.value) in
    let many : length c.deref_mut.result.now ≡ c.in-Ok-open.made.0.shared.count =
    rw c.deref_mut.ensures.value
    (search rules) in
    closed_again may leave c.args.systems.now c.in-Ok-open.made.0 c.close.result
    c.work-queues.result (records_of c.deref_mut.result.now) (records_of c.work-queues.new.lent) _
    c.view.result
    (search rules)
    (view_is c.in-Ok-open.made.0 c.view.result c.view.ensures.phase c.view.ensures.entities)
    (rw c.deref_mut.ensures.value (search rules)) (length-map c.deref_mut.result.now own ∙ many)
    (length-map c.work-queues.new.lent own ∙ (w.count ∙ many))
    (IfOk-weaker c.work-queues.result _ _ (λ q. all_gained may c.args.systems.now c.view.result
    c.shared.result.now _ c.deref_mut.result.now q.items c.work-queues.new.lent) w.done)
    (IfErr-weaker c.work-queues.result _ _ (λ left. some_gained may c.args.systems.now c.view.result
    c.shared.result.now leave _ c.deref_mut.result.now left.items c.work-queues.new.lent)
    w.broken_off) e.phase e.entities
    (rw back at e.after) (rw back at e.legal) (rw back at e.respects)

pub work-queues-requires-clause-lent : goal.work-queues-requires-clause-lent
work-queues-requires-clause-lent g c =
    rw (c.deref_mut.ensures.value, c.shared.ensures) (λ κs within. c.in-Ok-open.ensures.own)

pub close-requires-clause-own : goal.close-requires-clause-own
close-requires-clause-own g c =
    let w = c.work-queues.ensures in
    rw (written_back _ _ c.work-queues.new.lent c.in-Ok-open.made.1.ok.0
    (w.count ∙ ap length c.deref_mut.ensures.value)) (rw c.shared.ensures at w.lent)

pub returns-in-Ok-apply-clause-ok : goal.returns-in-Ok-apply-clause-ok
returns-in-Ok-apply-clause-ok g c =
    search (
      rules,
      closed g (goal.at.returns-in-Ok-apply-clause-ok g c).After-close,
      same g (goal.at.returns-in-Ok-apply-clause-ok g c).In-Ok-open,
    )

pub returns-in-Ok-apply-clause-alone : goal.returns-in-Ok-apply-clause-alone
returns-in-Ok-apply-clause-alone g c one =
    ends_in_order _ _ _ _ _ _ _ _ one (returns-in-Ok-apply-clause-ok g c)

pub returns-in-Err-apply-clause-stopped : goal.returns-in-Err-apply-clause-stopped
returns-in-Err-apply-clause-stopped g c =
    let e = c.in-Err-apply.ensures in
    let framed = framed_again g.S.System.may_issue g.S.System.may_leave _ _ _ c.in-Ok-open.made.0 _
    (same g (goal.at.returns-in-Err-apply-clause-stopped g c).In-Ok-open)
    (closed g (goal.at.returns-in-Err-apply-clause-stopped g c).After-close) c.args.workers
    c.in-Ok-open.ensures.shared.1 c.in-Ok-queues.queues c.in-Ok-queues.is in
    rw (sym c.deref.ensures.value)
    (stops_at _ _ _ _ e.flush_memory e.stop e.stopped_world e.stopped_born e.stopped_faults
    g.S.System.may_issue c.args.systems.now c.args.workers c.args.world.now
    (rw (sym c.deref.ensures.value) at framed))

pub returns-in-Err-queues-clause-still : goal.returns-in-Err-queues-clause-still
returns-in-Err-queues-clause-still g c =
    lost_again g.S.System.may_issue g.S.System.may_leave _ _ _ c.in-Ok-open.made.0 _
    (same g (goal.at.returns-in-Err-queues-clause-still g c).In-Ok-open)
    (closed g (goal.at.returns-in-Err-queues-clause-still g c).After-close)
    c.in-Ok-open.ensures.sound c.requires.flushed

pub returns-in-Err-queues-clause-lost : goal.returns-in-Err-queues-clause-lost
returns-in-Err-queues-clause-lost g c =
    broken_again g.S.System.may_issue g.S.System.may_leave _ _ _ c.in-Ok-open.made.0 _
    (same g (goal.at.returns-in-Err-queues-clause-lost g c).In-Ok-open)
    (closed g (goal.at.returns-in-Err-queues-clause-lost g c).After-close) c.args.workers
    c.in-Ok-open.ensures.shared.1 c.in-Err-queues.left c.in-Err-queues.is c.first_error.result
    c.first_error.ensures

pub returns-then-is_empty-clause-ok : goal.returns-then-is_empty-clause-ok
returns-then-is_empty-clause-ok g c =
    let w = c.without_systems.ensures in
    ends_none g.S.System.may_issue c.args.systems.now c.args.workers c.args.world.now _ _ _ _
    (search rules) w.queues
    w.world w.born w.faults

pub returns-then-is_empty-clause-alone : goal.returns-then-is_empty-clause-alone
returns-then-is_empty-clause-alone g c one =
    ends_in_order _ _ _ _ _ _ _ _ one (returns-then-is_empty-clause-ok g c)
