use Rattle.ent_runner.proofs.Common.{sym}
use Rattle.ent_runner.proofs.Working.{both_worked}
use Rattle.ent_runner.proofs.crew.worker.+halves.Goals as goal

pub run_all-returns : goal.run_all-returns
run_all-returns g t c =
    let cut = c.split_at_mut-first.ensures in
    both_worked _ _ _ _ _ _ _ _ _ _ _ (sym cut.value) c.run_both.ensures.front
    c.run_both.ensures.back

pub run_all-returns-then-threads-lt2 : goal.run_all-returns-then-threads-lt2
run_all-returns-then-threads-lt2 g t c =
    let cut = c.split_at_mut-first.ensures in
    both_worked _ _ _ _ _ _ _ _ _ _ _ (sym cut.value) c.run_all.ensures
    c.run_all-then-threads-lt2.ensures
