use Rattle.ent_blocks.proofs.Common.{◌≡◌, ◌≤◌, drop, length, map, are_among}
use Rattle.ent_blocks.proofs.accounting.missing.Given as goal

-- what is still to come decides
abbrev pub invariant-loop-part : goal.invariant-loop-part
invariant-loop-part g l = record {
  among : are_among (drop l.part-index l.parts) (drop l.next (map g.H.Held.block l.held))
      ≡ are_among l.parts (map g.H.Held.block l.held);
  within : l.next ≤ length l.held;
  few : l.next ≤ l.part-index;
}
