use Rattle.ent_world.proofs.Common.{common_steps, arith, rules}
use Rattle.ent_world.proofs.PlacedRows.{on_ok, on_err}
use Rattle.ent_world.proofs.Folds.{next_left, next_takes_memory}
use Rattle.ent_world.proofs.Left.{each_left-next}
use Rattle.ent_world.proofs.world.World.insert_each.Goals as goal

-- one that is done already
pub loop-done-preserved-then-done-from : goal.loop-done-preserved-then-done-from
loop-done-preserved-then-done-from c = grind (arith, common_steps, next_left)

-- the next one has its components
pub loop-done-preserved : goal.loop-done-preserved
loop-done-preserved c = search (rules, on_ok, next_left, each_left-next)

-- it stopped at this handle
pub returns-then-is_err-2-clause-memory : goal.returns-then-is_err-2-clause-memory
returns-then-is_err-2-clause-memory c = search (rules, on_err, next_takes_memory)
