use Rattle.ent_storage.proofs.Common.{◌≡◌, ◌≤◌, width_below}
use Rattle.ent_storage.proofs.rows.Rows.width.Given as goal

-- the numbers so far were looked at
abbrev pub invariant-loop-number : goal.invariant-loop-number
invariant-loop-number l = record {
  width : l.width ≡ width_below l.self.entities l.self.places l.number;
  most : l.width ≤ l.number;
}
