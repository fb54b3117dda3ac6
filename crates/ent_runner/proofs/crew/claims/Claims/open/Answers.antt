use Rattle.ent_runner.proofs.Common.{arith}
use Rattle.ent_runner.proofs.Steps.{goes_by_records}
use Rattle.ent_runner.proofs.Claiming.{next_holding, opened_more}
use Rattle.ent_runner.proofs.crew.claims.Claims.open.Goals as goal

pub split_first-requires-clause-rule : goal.split_first-requires-clause-rule
split_first-requires-clause-rule c = goes_by_records _ _

pub new-requires : goal.new-requires
new-requires c =
    next_holding c.args.numbers c.args.workers c.loop.counter _ _ _ c.loop.all.me c.loop-test.true
    c.loop.invariant.first c.split_first.result.views c.split_first.ensures.first.1

pub loop-preserved : goal.loop-preserved
loop-preserved c = record {
  first =
      opened_more _ c.args.workers c.loop.counter _ _ _ _ c.loop-test.true c.loop.invariant.first _
      _ _
      c.split_first.ensures.kept.0 c.split_first.ensures.kept.1 _ c.split_first.ensures.first.1
      (rw c.split_first.ensures.first.0 at c.new.ensures) _ c.push_reserved.ensures.items;
  count = omega (arith, c.loop.invariant.count, c.push_reserved.ensures.len);
  room = omega (arith, c.loop.invariant.room, c.push_reserved.ensures.capacity);
}
