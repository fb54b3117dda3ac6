use Rattle.ent_script.proofs.Common.{rules, ◌≡◌, ◌+◌, ◌-◌, length, None, ap, arith, after_end_array}
use Rattle.ent_script.proofs.Common.{value, frame_by, system_by}
use Rattle.ent_script.specs.declared.read_fault.ReadFault.TheVariants as fault
use Rattle.ent_script.proofs.Listing.{at_next, at_end, at_most_many, at_fault, fault_streams}
use Rattle.ent_script.proofs.Turns.{goes_on, goes_over}
use Rattle.ent_script.proofs.frames.systems.Goals as goal

pub returns-then-number-eq-SYSTEMS-clause-value : goal.returns-then-number-eq-SYSTEMS-clause-value
unfolding frame_by
returns-then-number-eq-SYSTEMS-clause-value c n ds rest e =
    let many =
    at_most_many (value c.args.depth)
    (system_by c.args.share c.args.format c.args.components.now c.args.frame) 256
    (fault.Frame c.args.frame) c.fault_of_array.result _ _ _ c.fault_of_array.new.reader ds rest
    (c.systems.invariant.at n ds rest e) in
    search (rules, fault_streams, many)

pub returns-in-Err-clause-value : goal.returns-in-Err-clause-value
unfolding frame_by
returns-in-Err-clause-value c n ds rest e =
    let l = c.systems in
    let going : (after_end_array l.reader ≡ None)
    × (c.take_end_array.new.self ≡ l.reader) = grind arith in
    let found = c.fault_of_array-in-Err in
    let room : 255 - l.number + l.number + 1 ≡ 256 = omega (arith, l.invariant.few) in
    fault_streams _ _ _ _ (λ other.
    let known : c.in-Err.fault ≡ fault.Memory → ⊥ = λ same. other (found.ensures.memory same) in
    at_fault _ _ 256 _ _ _ _ _ _ _ _ _ ds _ (l.invariant.at n ds rest e) going.0 room known
    (λ d r is. c.in-Err.ensures.value d r (rw going.1 is)) (found.ensures.value known))

pub systems-preserved : goal.systems-preserved
systems-preserved c =
    let l = c.systems in
    let going : (after_end_array l.reader ≡ None)
    × (c.take_end_array.new.self ≡ l.reader) = grind arith in
    record {
      at = λ n ds rest e. rw c.in_ok-push-in-Ok.ensures.items (at_next _ _ _ _ _ _ _ ds rest
          (l.invariant.at n ds rest e) going.0
          (λ d r is. c.in-Ok.ensures.value d r (rw going.1 is)));
      passed =
          λ n h. goes_on (value c.args.depth) _ l.reader _ (l.invariant.passed n h) going.0
          (rw (← going.1) c.in-Ok.ensures.passes) (rw (← going.1) c.in-Ok.ensures.shorter);
      few = omega (arith, l.invariant.few);
      shorter = omega (arith, l.invariant.shorter, ap length going.1, c.in-Ok.ensures.shorter);
    }

pub returns-clause-value : goal.returns-clause-value
unfolding frame_by
returns-clause-value c n ds rest e =
    let over =
    at_end (value c.args.depth) (system_by _ _ c.args.components.now _) 256
    (fault.Frame c.args.frame) _ _ _
    c.take_end_array.new.self ds rest (c.systems.invariant.at n ds rest e) in
    search (rules, over)

pub returns-clause-passes : goal.returns-clause-passes
returns-clause-passes c = goes_over (value c.args.depth) _ _ _
    (c.systems.invariant.passed (length c.args.reader.now) (omega arith)) (grind arith)
