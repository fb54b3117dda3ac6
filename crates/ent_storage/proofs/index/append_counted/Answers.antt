use Rattle.ent_storage.proofs.Common.{rules, ◌≡◌, ◌+◌, ◌<◌, true, cond, filter, take, length}
use Rattle.ent_storage.proofs.Common.{get_or, ap, ◌∙◌, arith, Bool, take_all, length-filter_more}
use Rattle.ent_storage.proofs.Common.{total, same}
use Rattle.ent_storage.proofs.Copied.{first_fit}
use Rattle.ent_storage.proofs.Counted.{counts, from_sorted_left, left_fits}
use Rattle.ent_storage.proofs.Overwritten.{is_sorted-filter}
use Rattle.ent_storage.proofs.index.append_counted.Goals as goal

-- one more counts, and no more do than there are entities
pub push_reserved-requires : goal.push_reserved-requires
push_reserved-requires c =
    let source = c.args.source.now in
    let i = c.loop-pair.pair-index in
    let test = counts c.args.rows.now.places in
    let inside : i < length source = omega (arith, c.loop-pair-test.true) in
    let counted : test (get_or source i c.pair-item.result) ≡ true =
    search (rules, c.has_key_at.ensures, c.if-has_key_at.true, c.pair-item.is) in
    let more = length-filter_more test source i c.pair-item.result inside
    ∙ ap (λ (b : Bool). length (filter test (take i source)) + cond b 1 0) counted in
    omega (
      arith,
      more,
      first_fit test source (i + 1),
      left_fits c.args.rows.now.places source c.requires.sorted,
      ap length c.loop-pair.invariant.items,
    )

-- all pairs were passed
pub returns-clause-sorted : goal.returns-clause-sorted
returns-clause-sorted c =
    let whole = c.loop-pair.invariant.items ∙ ap (filter (counts c.args.rows.now.places))
    (take_all c.loop-pair.pair-index c.args.source.now (omega (arith, c.loop-pair-test.false))) in
    rw whole (is_sorted-filter total same (counts c.args.rows.now.places) _ c.requires.sorted)

pub returns-clause-counted : goal.returns-clause-counted
returns-clause-counted c =
    search (rules, arith, take_all, from_sorted_left, c.loop-pair.invariant.items)
