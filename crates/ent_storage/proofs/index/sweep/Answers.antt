use Rattle.ent_storage.proofs.Common.{◌≡◌, filter, length, ap, arith, rules, filter_same, total}
use Rattle.ent_storage.proofs.Common.{same}
use Rattle.ent_storage.proofs.Counted.{counts, from_sorted_left, left_fits}
use Rattle.ent_storage.proofs.Overwritten.{is_sorted-filter}
use Rattle.ent_storage.proofs.index.sweep.Goals as goal

-- what is left are the pairs that count
left : (c : goal.After-retain) → c.retain.new.self.items
    ≡ filter (counts c.args.rows.now.places) c.args.pairs.now.items
left c = filter_same _ _ _ (λ x b f' k. search rules) _ _ c.retain.ensures.filtered

pub returns-clause-sorted : goal.returns-clause-sorted
returns-clause-sorted c =
    rw (left c) (is_sorted-filter total same (counts c.args.rows.now.places) _ c.requires)

pub returns-clause-counted : goal.returns-clause-counted
returns-clause-counted c = rw (left c) (from_sorted_left c.args.rows.now.places _ c.requires)

pub returns-clause-len : goal.returns-clause-len
returns-clause-len c =
    omega (
      arith,
      ap length (left c),
      left_fits c.args.rows.now.places c.args.pairs.now.items c.requires,
      c.retain.new.self.ok.0,
    )
