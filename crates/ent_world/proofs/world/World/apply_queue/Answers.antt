use Rattle.ent_world.proofs.Common.{rules, sym, ◌∙◌, err_from_is_err_and}
use Rattle.ent_world.proofs.Folds.{next_left}
use Rattle.ent_world.proofs.Left.{commands_left-step, commands_cut-step}
use Rattle.ent_world.proofs.world.World.apply_queue.Goals as goal

-- it stopped at this command
pub returns-in_err-apply_command-clause-err : goal.returns-in_err-apply_command-clause-err
returns-in_err-apply_command-clause-err c = search (rules, err_from_is_err_and, commands_cut-step)

-- one command more
pub loop-command-preserved : goal.loop-command-preserved
loop-command-preserved c =
    let left = sym c.loop-command.invariant.left ∙ c.in-Some.ensures.steps in
    search (rules, next_left, commands_left-step, left)
