use Rattle.ent_total.proofs.Common.{◌≡◌, ◌++◌, ◌≤◌, take, drop, map, length, vec_len, vec_capacity}
use Rattle.ent_total.proofs.Common.{All, reservers_of}
use Rattle.ent_blocks.specs.Drawing.{IsOfPhase}
use Rattle.ent_total.specs.Lending.{AreFrom, lent_out}
use Rattle.ent_total.proofs.lending.lend_all.Given as goal

-- those before this one are lent out
abbrev pub invariant-loop-reserver : goal.invariant-loop-reserver
invariant-loop-reserver g l = record {
  lent : l.lent.items ≡ reservers_of (take l.reserver-index l.fn.reservers);
  left : l.reservers ≡ map lent_out (take l.reserver-index l.fn.reservers)
      ++ drop l.reserver-index l.fn.reservers;
  own : (source : g.row.S.Denot) → AreFrom source l.fn.reservers
      → All (IsOfPhase (g.S.OfBlocks.of source)) l.lent.items;
  len : vec_len l.lent ≡ l.reserver-index;
  room : length l.fn.reservers ≤ vec_capacity l.lent;
}
