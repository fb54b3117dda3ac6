use Rattle.ent_replay.proofs.Common.{arith, ◌≡◌, common_steps, nat_eq, Decides, eq_of_both, on}
use Rattle.ent_replay.proofs.Common.{slice_eq-Decides, Handle}
use Rattle.ent_replay.proofs.trace.fitting.same.Goals as goal

-- the test of two handles
handles_decide : (a b : Handle) → Decides (eq_of_both (on (λ (h : Handle). h.index) nat_eq)
    (on (λ (h : Handle). h.generation) nat_eq) a b) (a ≡ b)
handles_decide a b = grind (arith, common_steps)

pub returns : goal.returns
returns c =
    slice_eq-Decides handles_decide c.args.told.now c.args.given.now c.eq.result c.eq.ensures
