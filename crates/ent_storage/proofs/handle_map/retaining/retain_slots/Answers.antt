use Rattle.ent_storage.proofs.Common.{arith, rules}
use Rattle.ent_storage.proofs.Kept.{counted-slot, retained-more, retained-done, counts_one}
use Rattle.ent_storage.proofs.handle_map.retaining.retain_slots.Goals as goal

pub loop-index-preserved : goal.loop-index-preserved
loop-index-preserved g c =
    let inv = c.loop-index.invariant in
    record {
      callable = c.retain_slot-keep.ensures.callable;
      len = inv.len;
      capacity = inv.capacity;
      counted =
          counted-slot _ _ _ _ _ _ inv.counted (omega (arith, inv.below.long))
          c.index_mut.ensures.value c.retain_slot-keep.ensures.counted;
      below =
          retained-more (goal.F-step g) _ _ _ _ _ _ _ _ (omega (arith, inv.below.long))
          c.index_mut.ensures.value
          c.retain_slot-keep.ensures.kept inv.below;
    }

pub returns-clause-retained : goal.returns-clause-retained
returns-clause-retained g c =
    retained-done (goal.F-step g) _ _ _ _ _ (omega arith) c.loop-index.invariant.below

pub retain_slot-keep-requires-clause-counted : goal.retain_slot-keep-requires-clause-counted
retain_slot-keep-requires-clause-counted g c = search (rules, counts_one)
