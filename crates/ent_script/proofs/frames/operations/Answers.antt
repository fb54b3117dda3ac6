use Rattle.ent_script.proofs.Common.{rules, ◌≡◌, ◌+◌, ◌-◌, length, None, ap, ◌∙◌, arith}
use Rattle.ent_script.proofs.Common.{after_end_array, value, list_of, system_of, operation_at}
use Rattle.ent_script.specs.declared.read_fault.ReadFault.TheVariants as fault
use Rattle.ent_script.proofs.Listing.{at_end, at_most_many, at_fault, fault_streams, reached_next}
use Rattle.ent_script.proofs.Listing.{listed_among}
use Rattle.ent_script.proofs.Turns.{goes_on, goes_over}
use Rattle.ent_script.proofs.frames.operations.Goals as goal

pub returns-then-number-eq-OPERATIONS-clause-value :
    goal.returns-then-number-eq-OPERATIONS-clause-value
unfolding system_of
returns-then-number-eq-OPERATIONS-clause-value c n ds rest e =
    let g = operation_at c.args.format c.args.components.now c.args.frame c.args.system in
    let limit = fault.System c.args.frame c.args.system in
    let at = c.operations.invariant.at n ds rest e in
    let many =
    at_most_many (value c.args.depth) (g (list_of ds)) 10000 limit c.fault_of_array.result _ _ _
    c.fault_of_array.new.reader ds rest (at.0, at.1, at.2, at.3, at.4) in
    search (rules, fault_streams, many, listed_among 10000 g limit (list_of ds))

pub returns-in-Err-clause-value : goal.returns-in-Err-clause-value
unfolding system_of
returns-in-Err-clause-value c n ds rest e =
    let l = c.operations in
    let g = operation_at _ c.args.components.now _ _ in
    let going : (after_end_array l.reader ≡ None)
    × (c.take_end_array.new.self ≡ l.reader) = grind arith in
    let limit = fault.System c.args.frame c.args.system in
    let found = c.fault_of_array-in-Err in
    let room : 9999 - l.number + l.number + 1 ≡ 10000 = omega (arith, l.invariant.few) in
    let at = l.invariant.at n ds rest e in
    fault_streams _ _ _ _ (λ other.
    let known : c.in-Err.fault ≡ fault.Memory → ⊥ = λ same. other (found.ensures.memory same) in
    let is = at_fault _ _ _ _ _ _ _ _ _ _ _ _ ds _ (at.0, at.1, at.2, at.3, at.4) going.0 room known
    (λ d r is. rw (← at.6) (c.in-Err.ensures.value d r (rw going.1 is)))
    (found.ensures.value known) in
    (listed_among _ g _ _ ∙ is.0, is.1))

pub operations-preserved : goal.operations-preserved
operations-preserved c =
    let l = c.operations in
    let g = operation_at c.args.format c.args.components.now c.args.frame c.args.system in
    let going : (after_end_array l.reader ≡ None)
    × (c.take_end_array.new.self ≡ l.reader) = grind arith in
    record {
      at = λ n ds rest e. let at = l.invariant.at n ds rest e in rw c.in_ok-push-in-Ok.ensures.items
          (reached_next _ _ _ _ _ _ _ ds _ _ _ at going.0 (λ d r is. rw (← at.6)
          (c.in-Ok.ensures.value d r (rw going.1 is))) (λ d r is.
          c.in-Ok.ensures.binds d r (rw going.1 is)));
      passed =
          λ n h. goes_on (value c.args.depth) _ l.reader _ (l.invariant.passed n h) going.0
          (rw (← going.1) c.in-Ok.ensures.passes) (rw (← going.1) c.in-Ok.ensures.shorter);
      few = omega (arith, l.invariant.few);
      shorter = omega (arith, l.invariant.shorter, ap length going.1, c.in-Ok.ensures.shorter);
    }

pub returns-clause-value : goal.returns-clause-value
unfolding system_of
returns-clause-value c n ds rest e =
    let g = operation_at c.args.format c.args.components.now c.args.frame c.args.system in
    let limit = fault.System c.args.frame c.args.system in
    let at = c.operations.invariant.at n ds rest e in
    let over =
    at_end (value c.args.depth) (g (list_of ds)) 10000 limit _ _ _ c.take_end_array.new.self ds
    rest
    (at.0, at.1, at.2, at.3, at.4) in
    rw (listed_among 10000 g limit (list_of ds)) (search (rules, over))

pub returns-clause-passes : goal.returns-clause-passes
returns-clause-passes c = goes_over (value c.args.depth) _ _ _
    (c.operations.invariant.passed (length c.args.reader.now) (omega arith)) (grind arith)
