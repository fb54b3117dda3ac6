use Rattle.ent_total.proofs.Common.{rules, ◌∙◌, ap, sym, subst, arith, length, Ok, inl, List, ℕ}
use Rattle.ent_total.proofs.Common.{length-append, word, length-word, world_image, HasFault}
use Rattle.ent_total.proofs.Common.{MayTakeMemory, read_is, refused_is}
use Rattle.ent_total.proofs.ImageEnd.{of, same_ends, handed, handed_on, before_is, none_before}
use Rattle.ent_total.proofs.image.of_image.Goals as goal

pub returns-then-bytes-lt-COUNT-clause-exact : goal.returns-then-bytes-lt-COUNT-clause-exact
returns-then-bytes-lt-COUNT-clause-exact c w spawned has fits is =
    absurd
    (omega (
      arith,
      length-append (world_image w) (word spawned),
      ap length is,
      length-word spawned,
      c.if-bytes-lt-COUNT.true,
    ))

pub returns-in_err-world-clause-exact : goal.returns-in_err-world-clause-exact
returns-in_err-world-clause-exact c w spawned has fits is =
    let cut = c.split_count-spawned in
    let same =
    same_ends (world_image w) cut.result.0.now spawned cut.result.1 fits (search rules)
    (is ∙ cut.ensures) in
    handed c.from_residual.result c.in_err-world.field-0.0 c.from_residual.ensures.1
    (refused_is c.in_err-world.field-0.0 w (c.in_err-world.ensures.exact w has same.0))
    (of w c.args.number spawned)

pub returns-clause-exact : goal.returns-clause-exact
returns-clause-exact c w spawned has fits is =
    let cut = c.split_count-spawned in
    let same =
    same_ends (world_image w) cut.result.0.now spawned cut.result.1 fits (search rules)
    (is ∙ cut.ensures) in
    let read = read_is c.in_ok-world.world w (c.in_ok-world.ensures.exact w has same.0) in
    inl (λ i. Ok (of (read i) c.args.number (sym same.1 i)))

-- ---- the first fault, and memory

pub returns-then-bytes-lt-COUNT-clause-fault : goal.returns-then-bytes-lt-COUNT-clause-fault
returns-then-bytes-lt-COUNT-clause-fault c other =
    none_before c.args.bytes.now c.if-bytes-lt-COUNT.true

pub returns-in_err-world-clause-fault : goal.returns-in_err-world-clause-fault
returns-in_err-world-clause-fault c =
    let cut = c.split_count-spawned in
    let fault = c.in_err-world.field-0.0 in
    handed_on c.from_residual.result fault _ c.from_residual.ensures.1
    (λ other. subst (λ (bytes : List ℕ). HasFault bytes fault)
    (sym (before_is c.args.bytes.now cut.result.0.now cut.result.1 cut.ensures))
    (c.in_err-world.ensures.fault other))

pub returns-in_err-world-clause-memory : goal.returns-in_err-world-clause-memory
returns-in_err-world-clause-memory c =
    let cut = c.split_count-spawned in
    handed_on c.from_residual.result c.in_err-world.field-0.0 _ c.from_residual.ensures.1
    (λ is.
    subst MayTakeMemory
    (sym (before_is c.args.bytes.now cut.result.0.now cut.result.1 cut.ensures))
    (c.in_err-world.ensures.memory is))
