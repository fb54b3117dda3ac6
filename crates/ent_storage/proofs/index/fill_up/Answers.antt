use Rattle.ent_storage.proofs.Common.{rules, refl, sym, HasAll, counted, fin_from_sorted}
use Rattle.ent_storage.proofs.Counted.{counted_gives, all_after}
use Rattle.ent_storage.proofs.index.fill_up.Goals.{in-Some, in_default}
use Rattle.ent_storage.proofs.index.fill_up.Goals as goal

pub loop-index-init : goal.loop-index-init
loop-index-init c = record {
  sorted = c.requires;
  kept = λ q i at. (counted_gives _ _ q i at).0;
  capacity = refl;
}

pub loop-index-preserved : goal.loop-index-preserved
loop-index-preserved c = elim c.match-new.branch [
  | in-Some w ↦
      let e = w.put_behind.ensures in
      let kept :
      HasAll (counted c.args.rows.now.places (fin_from_sorted c.args.pairs.now.items))
      (fin_from_sorted w.put_behind.new.pairs.items) =
      all_after _ _ _ _ _ w.put_behind.result c.loop-index.invariant.kept e.new e.kept e.refused in
      rw (w.pairs-is) (record {
        sorted = e.sorted;
        kept = kept;
        capacity = search (rules, c.loop-index.invariant.capacity, e.capacity);
      })
  | in_default w ↦ rw (w.pairs-is) c.loop-index.invariant
]
