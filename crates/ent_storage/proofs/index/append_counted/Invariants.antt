use Rattle.ent_storage.proofs.Common.{◌≡◌, filter, take, vec_capacity}
use Rattle.ent_storage.proofs.Counted.{counts}
use Rattle.ent_storage.proofs.index.append_counted.Given as goal

-- the pairs that were passed and count
abbrev pub invariant-loop-pair : goal.invariant-loop-pair
invariant-loop-pair l = record {
  items : l.pairs.items ≡ filter (counts l.rows.places) (take l.pair-index l.source);
  capacity : vec_capacity l.pairs ≡ vec_capacity l.initial.pairs;
}
