use Rattle.ent_storage.proofs.Common.{◌≡◌, T, vec_capacity, handle_cmp, is_sorted, HasAll, counted}
use Rattle.ent_storage.proofs.Common.{fin_from_sorted}
use Rattle.ent_storage.proofs.index.fill_up.Given as goal

-- all that counted at the start is there still
abbrev pub invariant-loop-index : goal.invariant-loop-index
invariant-loop-index l = record {
  sorted : T (is_sorted handle_cmp l.pairs.items);
  kept : HasAll (counted l.rows.places (fin_from_sorted l.initial.pairs.items))
      (fin_from_sorted l.pairs.items);
  capacity : vec_capacity l.pairs ≡ vec_capacity l.initial.pairs;
}
