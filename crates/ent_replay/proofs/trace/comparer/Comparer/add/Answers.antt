use Rattle.ent_replay.proofs.Common.{rules, ◌≡◌, ap, ◌∙◌, arith, unwrap_or, IsKeyed, available}
use Rattle.ent_replay.proofs.Common.{cases_lt}
use Rattle.std.specs.FinMap as finite
use Rattle.ent_replay.proofs.Sorted.{IsChecking-push}
use Rattle.ent_replay.proofs.trace.comparer.Comparer.add.Goals as goal

pub invariant_of-result : goal.invariant_of-result
invariant_of-result c =
    let e = c.self.inside in
    let r = c.args.reservation in
    let s = e.entities.allocator in
    let before : c.unwrap_or-before.result ≡ unwrap_or (finite.get e.latest r.caller) 0 =
    c.unwrap_or-before.ensures
    ∙ ap (λ o. unwrap_or o 0) c.get.ensures in
    let keyed : IsKeyed (available s) (unwrap_or (finite.get e.latest r.caller) 0)
    (record { reservation = r; key = c.max-key.result }) = search (rules, cases_lt) in
    rw (c.in_ok-insert.ensures.ok, c.in_ok-push.ensures.items, c.from.ensures)
    (IsChecking-push e.latest _ (omega arith) s e.wanted e.run.items c.self.invariant (omega arith)
    keyed)
