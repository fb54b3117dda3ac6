use Rattle.ent_storage.proofs.Common.{◌≡◌, ◌∙◌, ap, arith, rules, get_or, pos, to_z-of_z, drop_all}
use Rattle.ent_storage.proofs.Common.{drop_more, put, component_cmp, w64, FitsSigned}
use Rattle.ent_storage.proofs.Puts.{last_value, more_than, still_rising}
use Rattle.ent_storage.proofs.Missing.{on_err}
use Rattle.ent_storage.proofs.bundle.Bundle.of.Goals as goal

pub loop-id-preserved : goal.loop-id-preserved
loop-id-preserved g c =
    let items = c.args.items.now in
    let at = c.loop-id.id-index in
    let item = get_or items at (record { 0 = 0 }, pos 0) in
    let next = drop_more items at (record { 0 = 0 }, pos 0) c.loop-id-test.true in
    let held = c.loop-id.bundle in
    let fits : FitsSigned w64 item.1 = search rules in
    let now_is : c.put.new.self ≡ put component_cmp item.0 item.1 held = c.in_ok-put.ensures.ok
    ∙ ap (λ z. put component_cmp item.0 z held) (to_z-of_z w64 item.1 fits) in
    search (rules, still_rising, c.loop-id.invariant.rising, c.loop-id.invariant.left)

pub returns-in_err-put-clause-memory : goal.returns-in_err-put-clause-memory
returns-in_err-put-clause-memory g c =
    let next = drop_more _ _ (record { 0 = 0 }, pos 0) c.loop-id-test.true in
    let needs = c.in_err-put.ensures.memory in
    let rising = c.loop-id.invariant.rising in
    search (rules, c.loop-id.invariant.left, on_err, c.from_residual.result, more_than)

pub returns-clause-last : goal.returns-clause-last
returns-clause-last g c id =
    let items = c.args.items.now in
    let done = drop_all c.loop-id.id-index items (omega arith) in
    search (rules, c.loop-id.bundle, c.loop-id.invariant.left, last_value)
