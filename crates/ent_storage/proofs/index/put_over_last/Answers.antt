use Rattle.ent_storage.proofs.Common.{◌+◌, set, arith, handle_cmp, total, same, IsGapFor, IsFree}
use Rattle.ent_storage.proofs.Counted.{IsPut, put_over, counted_none}
use Rattle.ent_storage.proofs.Rising.{get_in_gap}
use Rattle.ent_storage.proofs.index.put_over_last.Goals as goal

module _ (c : goal.After-pairs-1) where
  gap : IsGapFor handle_cmp c.args.pairs.now.items c.args.pair.0 (c.index-slot.result + 1)
  gap =
      rw (c.deref-then-is_own.ensures.value, c.handle-then-is_own.ensures) at c.is_gap.ensures
      c.if-is_gap.true

  free : IsFree c.args.rows.now.places c.args.pairs.now.items c.index-slot.result
  free = rw c.deref.ensures.value at c.is_own.ensures c.if-is_own.true

  put : IsPut c.args.rows.now.places c.args.pairs.now.items
      (set c.args.pairs.now.items c.index-slot.result (c.args.pair.0, c.args.pair.1)) c.args.pair.0
      c.args.pair.1
  put =
      put_over _ _ c.requires _ _ _ (λ j d low high. gap.smaller_before j d low (omega arith))
      gap.greater_after free

pub returns-then-is_gap-clause-sorted : goal.returns-then-is_gap-clause-sorted
returns-then-is_gap-clause-sorted c = (put c).sorted

-- the handle is in a gap
pub returns-then-is_gap-clause-new : goal.returns-then-is_gap-clause-new
returns-then-is_gap-clause-new c _ =
    counted_none _ _ _ (get_in_gap total same _ c.requires _ _ (gap c))

pub returns-then-is_gap-clause-placed : goal.returns-then-is_gap-clause-placed
returns-then-is_gap-clause-placed c _ = (put c).placed

pub returns-then-is_gap-clause-kept : goal.returns-then-is_gap-clause-kept
returns-then-is_gap-clause-kept c _ = (put c).kept
