use Rattle.ent_script.proofs.Common.{refl, arith, subst, Bool, true, false, PassesAtMost, Ok}
use Rattle.ent_script.proofs.streaming.fault_of_array.Goals as goal

pub returns-in-Ok-true-clause-value : goal.returns-in-Ok-true-clause-value
returns-in-Ok-true-clause-value c other n ds rest e =
    let is : PassesAtMost c.args.most (Ok true) c.passes_at_most.new.reader ds rest = subst
    (λ (b : Bool). PassesAtMost c.args.most (Ok b) c.passes_at_most.new.reader ds rest)
    c.in-Ok-true.field-0-test
    (c.in-Ok-true.ensures.value n ds rest e) in
    record { few = λ _. refl; many = λ h. absurd (omega (arith, h, is.0)); passed = is.1 }

pub returns-in-Ok-false-clause-value : goal.returns-in-Ok-false-clause-value
returns-in-Ok-false-clause-value c other n ds rest e =
    let is : PassesAtMost c.args.most (Ok false) c.passes_at_most.new.reader ds rest = subst
    (λ (b : Bool). PassesAtMost c.args.most (Ok b) c.passes_at_most.new.reader ds rest)
    c.in-Ok-false.field-0-test
    (c.in-Ok-false.ensures.value n ds rest e) in
    record { few = λ h. absurd (omega (arith, h, is.0)); many = λ _. refl; passed = is.1 }
