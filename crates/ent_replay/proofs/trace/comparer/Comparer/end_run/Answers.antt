use Rattle.ent_replay.proofs.Common.{sym, subst, err_from_is_err_and, Follows}
use Rattle.ent_replay.proofs.Orders.{called-Follows, called-Shows, called-None, settled-None}
use Rattle.ent_replay.proofs.Orders.{Shows-more, alone_Reaches}
use Rattle.ent_replay.proofs.Recorded.{on_differs, on_both, on_err}
use Rattle.ent_replay.proofs.trace.comparer.Comparer.end_run.Goals as goal

pub returns-in_err-settle : goal.returns-in_err-settle
returns-in_err-settle c =
    let self = c.args.self in
    let p = err_from_is_err_and c.from_residual.result c.from_residual.ensures.1 in
    record {
      follows = rw p.1 tt;
      reaches = rw p.1 tt;
      differs = rw (p.1, p.2) (on_differs c.in_err-settle.field-0.0 _ _
          (λ d shows. Shows-more self c.args.number c.args.line d c.requires (shows c.args.number))
          c.in_err-settle.ensures.differs);
      none =
          rw (p.1, p.2)
          (on_differs c.in_err-settle.field-0.0 _ _ (λ d. settled-None self c.args.line c.requires)
          c.in_err-settle.ensures.none);
      counted = rw (p.1, p.2) c.in_err-settle.ensures.counted;
    }

pub returns : goal.returns
returns c =
    let self = c.args.self in
    let l = c.args.line in
    let at = c.in_ok-settle.field-0.allocator in
    let alone = c.requires in
    let settled = c.in_ok-settle.ensures.settled in
    record {
      follows = on_both c.call.result _ _ _ (λ fits next is. subst (Follows self l) (sym is)
          (called-Follows self l at alone settled fits)) c.call.ensures.fits c.call.ensures.next;
      reaches =
          on_both c.call.result _ _ _ (λ fits next. alone_Reaches self l next at alone settled fits)
          c.call.ensures.fits c.call.ensures.next;
      differs =
          on_err c.call.result _ _
          (λ stop. on_differs stop _ _ (λ d. called-Shows self l at c.args.number d alone
          settled)) c.call.ensures.differs;
      none =
          on_err c.call.result _ _
          (λ stop. on_differs stop _ _ (λ d differs. called-None self l at alone settled
          differs.unlike)) c.call.ensures.differs;
      counted = c.call.ensures.counted;
    }
