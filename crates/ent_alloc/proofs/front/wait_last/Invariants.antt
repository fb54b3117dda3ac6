use Rattle.ent_alloc.proofs.Common.{◌≡◌, ◌-◌, All, true, length, drop, moved, record_at}
use Rattle.ent_alloc.proofs.Common.{is_pending_from}
use Rattle.ent_alloc.proofs.front.wait_last.Given as goal

-- what is still to come does the rest
abbrev pub invariant-loop-index : goal.invariant-loop-index
invariant-loop-index l = record {
  as_long : length l.records ≡ length l.initial.records;
  at : l.position ≡ length l.initial.pending - l.index-index;
  rest : moved l.records l.position (drop l.index-index l.order)
      ≡ moved l.initial.records (length l.initial.pending) l.order;
  waiting : All (λ i. is_pending_from (record_at l.records i).occupancy 0 ≡ true) l.order;
}
