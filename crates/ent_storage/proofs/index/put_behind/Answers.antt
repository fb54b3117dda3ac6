use Rattle.ent_storage.proofs.Common.{rules, ◌≡◌, length, arith, insert, handle_cmp, total, same}
use Rattle.ent_storage.proofs.Common.{IsGapFor, insert_end}
use Rattle.ent_storage.proofs.Counted.{put_between, counted_none}
use Rattle.ent_storage.proofs.Rising.{get_in_gap}
use Rattle.ent_storage.proofs.index.put_behind.Goals as goal

module _ (c : goal.After-push_reserved) where
  gap : IsGapFor handle_cmp c.args.pairs.now.items c.args.pair.0 c.len-end.result
  gap = rw (c.deref.ensures.value, c.handle.ensures) at c.is_gap.ensures c.if-is_gap.true

  end : insert c.args.pairs.now.items c.len-end.result c.args.pair ≡ c.push_reserved.new.self.items
  end =
      let position : c.len-end.result ≡ length c.args.pairs.now.items = omega arith in
      search (rules, c.args.pairs.now.items, c.args.pair, insert_end, c.push_reserved.ensures.items)

pub returns-then-is_gap : goal.returns-then-is_gap
returns-then-is_gap c =
    let new =
    counted_none c.args.rows.now.places _ _
    (get_in_gap total same _ c.requires _ _ (gap c)) in
    let put =
    rw (end c) at
    (put_between c.args.rows.now.places _ c.requires _ c.args.pair.1 _ (gap c)) in
    search (rules, new, put)
