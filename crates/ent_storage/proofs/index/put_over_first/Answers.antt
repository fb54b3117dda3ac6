use Rattle.ent_storage.proofs.Common.{set, handle_cmp, IsAt, IsFree}
use Rattle.ent_storage.proofs.Counted.{IsPut, put_same, same_not_counted}
use Rattle.ent_storage.proofs.index.put_over_first.Goals as goal

module _ (c : goal.After-pairs-1) where
  at : IsAt handle_cmp c.args.pairs.now.items c.args.pair.0 c.in-Some.position
  at = rw (c.deref.ensures.value, c.handle.ensures) at c.in-Some.ensures

  free : IsFree c.args.rows.now.places c.args.pairs.now.items c.in-Some.position
  free = rw c.deref-2.ensures.value at c.is_free.ensures c.if-is_free.true

  put : IsPut c.args.rows.now.places c.args.pairs.now.items
      (set c.args.pairs.now.items c.in-Some.position (c.args.pair.0, c.args.pair.1)) c.args.pair.0
      c.args.pair.1
  put = put_same _ _ c.requires _ _ _ at

pub returns-then-is_free-clause-sorted : goal.returns-then-is_free-clause-sorted
returns-then-is_free-clause-sorted c = (put c).sorted

pub returns-then-is_free-clause-new : goal.returns-then-is_free-clause-new
returns-then-is_free-clause-new c _ =
    same_not_counted _ _ c.requires _ c.args.pair.1 _ (at c) (free c)

pub returns-then-is_free-clause-placed : goal.returns-then-is_free-clause-placed
returns-then-is_free-clause-placed c _ = (put c).placed

pub returns-then-is_free-clause-kept : goal.returns-then-is_free-clause-kept
returns-then-is_free-clause-kept c _ = (put c).kept
