use Rattle.ent_blocks.proofs.Common.{◌≡◌, ◌≤◌, take, length, vec_len, All, vec_capacity, blocks_of}
use Rattle.ent_blocks.specs.Blocks.{IsUnused}
use Rattle.ent_blocks.proofs.opening.hand_out.Given as goal

abbrev pub invariant-loop-part : goal.invariant-loop-part
invariant-loop-part l = record {
  reservers : blocks_of l.reservers.items ≡ take l.part-index l.parts;
  unused : All IsUnused l.reservers.items;
  len : vec_len l.reservers ≡ l.part-index;
  room : length l.parts ≤ vec_capacity l.reservers;
}
