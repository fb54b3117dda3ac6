use Rattle.ent_alloc.proofs.Common.{◌≡◌, ℕ, length, take, drop, map, reused, handle_at, record_at}
use Rattle.ent_alloc.proofs.slot_record.reuse_each.Given as goal

abbrev pub invariant-loop-position : goal.invariant-loop-position
invariant-loop-position l = record {
  as_long : length l.records ≡ length l.initial.records;
  generations : (at : ℕ) → (record_at l.records at).generation
      ≡ (record_at l.initial.records at).generation;
  rest : reused l.records (drop l.position l.indices) ≡ reused l.initial.records l.indices;
  listed : take l.position l.places ≡ map (handle_at l.initial.records) (take l.position l.indices);
  places : length l.places ≡ length l.indices;
}
