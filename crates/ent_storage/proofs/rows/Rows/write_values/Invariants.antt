use Rattle.ent_storage.proofs.Common.{◌≡◌, ◌≤◌, ◌<◌, ◌+◌, ◌-◌, ◌*◌, ◌++◌, IfSome, vec_len, w64}
use Rattle.ent_storage.proofs.Common.{FitsSigned, ComponentId, value_of, values_bytes, vec_capacity}
use Rattle.ent_storage.proofs.rows.Rows.write_values.Given as goal

abbrev pub invariant-loop-number : goal.invariant-loop-number
invariant-loop-number l = record {
  items : l.out.items ≡ l.fn.out.items ++ values_bytes (value_of l.self.entities l.handle) l.number;
  values : (id : ComponentId) → id.0 < l.number
      → IfSome (value_of l.self.entities l.handle id) (FitsSigned w64);
  room : vec_len l.out + 9 * (l.width - l.number) ≤ vec_capacity l.out;
  len : vec_len l.out ≤ vec_len l.fn.out + 9 * l.number;
  capacity : vec_capacity l.fn.out ≤ vec_capacity l.out;
}
