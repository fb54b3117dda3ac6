use Rattle.ent_total.proofs.Common.{◌≡◌, ◌++◌, length, All}
use Rattle.ent_blocks.specs.Drawing.{IsOfPhase}
use Rattle.ent_total.specs.Lending.{returned}
use Rattle.ent_total.proofs.lending.put_back.Given as goal

-- those before this one have been put back
abbrev pub invariant-loop-mine : goal.invariant-loop-mine
invariant-loop-mine g l = record {
  all : l.yielded ++ l.mine-iterator.rest.items ≡ l.fn.lent.items;
  at : l.at ≡ length l.yielded;
  back : l.reservers ≡ returned l.fn.reservers l.yielded;
  own : All (IsOfPhase (g.S.OfBlocks.of l.fn.source)) l.mine-iterator.rest.items;
}
