use Rattle.ent_alloc.proofs.Common.{◌≡◌, ℕ, ◌^◌, ◌<◌, ◌+◌, ◌-◌, ◌*◌, ◌≤◌, ◌++◌, length, take}
use Rattle.ent_alloc.proofs.Common.{vec_len, flat_map, record_at, number_of, rowless_bytes}
use Rattle.ent_alloc.proofs.Common.{without_row, vec_capacity}
use Rattle.ent_alloc.proofs.image_slots.write_rowless_slots.Given as goal

-- those before the index are written, and there is room for the rest
abbrev pub invariant-loop-record : goal.invariant-loop-record
invariant-loop-record l = record {
  written : l.out.items ≡ l.fn.out.items ++ flat_map rowless_bytes (take l.record-index l.records);
  fits : (index : ℕ) → index < l.record-index
      → number_of (without_row (record_at l.records index)).occupancy < 2 ^ 32;
  room : vec_len l.out + 12 * (length l.records - l.record-index) ≤ vec_capacity l.out;
  len : vec_len l.out ≡ vec_len l.fn.out + 12 * l.record-index;
  capacity : vec_capacity l.fn.out ≤ vec_capacity l.out;
}
