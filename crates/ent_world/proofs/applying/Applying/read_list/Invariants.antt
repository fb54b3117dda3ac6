use Rattle.ent_world.proofs.Common.{◌≡◌, ◌+◌, ◌≤◌, ◌++◌, length, vec_len, vec_capacity}
use Rattle.ent_world.proofs.applying.Applying.read_list.Given as goal

-- what is read and what is left are the bundle, there is room for the rest, and no fault was listed
abbrev pub invariant-loop-item : goal.invariant-loop-item
invariant-loop-item l = record {
  read : l.self.items.items ++ l.item-iterator ≡ l.bundle;
  room : vec_len l.self.items + length l.item-iterator ≤ vec_capacity l.self.items;
  faults : l.self.faults.items ≡ l.fn.self.faults.items;
}
