use Rattle.ent_script.proofs.Common.{common_steps, ◌≡◌, ℕ, ◌+◌, List, ◌++◌, length, map, None}
use Rattle.ent_script.proofs.Common.{arith, rules, append_assoc, true, false, le-leb, Bool, ap}
use Rattle.ent_script.proofs.Common.{option_map, [], ◌∙◌, Option, Vec, Global, lt-leb, map-append}
use Rattle.ent_script.proofs.Common.{append-nil, nat_le, Token, after_end_array, items, value, Data}
use Rattle.ent_script.proofs.Common.{Items, view, Value, cut, list_of, left, PassesAtMost, Json, Ok}
use Rattle.ent_script.proofs.Common.{Err}
use Rattle.ent_script.proofs.Finding.{next_item, last_item}
use Rattle.ent_script.proofs.Turns.{goes_on, goes_stuck, goes_over, passes_refused}
use Rattle.ent_script.proofs.streaming.elements_cut.Goals as goal

lengths : (levels : ℕ) (all later : List Data) (front : List Value)
    → map (cut levels) all ≡ map view front ++ map (cut levels) later
    → length all ≡ length front + length later
lengths levels all later front e = grind (arith, common_steps)

passed_over : (b : Bool) (left : List Token) (ds : Items) (rest : List Token)
    → PassesAtMost 0 (Ok b) left ds rest → left ≡ rest
passed_over true left ds rest h = h.1
passed_over false left ds rest h = h.1

pub returns-then-len-most-clause-value : goal.returns-then-len-most-clause-value
returns-then-len-most-clause-value c n ds rest e =
    let l = c.elements in
    let going : (after_end_array l.reader ≡ None)
    × (c.take_end_array.new.self ≡ l.reader) = grind arith in
    let at = l.invariant.found n ds rest e in
    let next = next_item (value c.args.depth) at.0 l.reader rest at.1 going.0 at.2 in
    let all = lengths c.args.levels (list_of ds) (list_of at.1) l.found.items at.3 in
    let test : nat_le (length (list_of ds)) c.args.most ≡ false =
    grind (arith, common_steps, lt-leb) in
    let now = c.in_ok-passes_at_most.ensures.value at.0 at.1 rest (rw going.1 at.2) in
    (rw test, passed_over _ _ at.1 rest now)

pub elements-preserved : goal.elements-preserved
elements-preserved c =
    let l = c.elements in
    let going : (after_end_array l.reader ≡ None)
    × (c.take_end_array.new.self ≡ l.reader) = grind arith in
    let full : length l.found.items ≡ c.args.most → ⊥ = grind arith in
    record {
      found = λ n ds rest e. let at = l.invariant.found n ds rest e in
          let next = next_item (value c.args.depth) at.0
          l.reader rest at.1 going.0 at.2 in search (rules, next, append_assoc, map-append);
      same =
          λ n h. goes_on (value c.args.depth) _ l.reader c.read_cut.new.reader
          (l.invariant.same n h) going.0
          (rw (← going.1) (ap (option_map (λ p. p.1)) c.in_ok-read_cut.ensures.ok.1))
          (rw (← going.1) c.in_ok-read_cut.ensures.shorter);
      few = grind (arith, common_steps, full);
      shorter = grind arith;
    }

pub returns-clause-value : goal.returns-clause-value
returns-clause-value c n ds rest e =
    grind (arith, common_steps, last_item, lengths, le-leb, append-nil)

pub returns-clause-passes : goal.returns-clause-passes
returns-clause-passes c n h =
    let l = c.elements in
    goes_over (value _) _ l.reader c.take_end_array.new.self (l.invariant.same n h) (grind arith)

pub returns-in_err-read_cut-clause-passes : goal.returns-in_err-read_cut-clause-passes
returns-in_err-read_cut-clause-passes c n h =
    let l = c.elements in
    let going : (after_end_array l.reader ≡ None)
    × (c.take_end_array.new.self ≡ l.reader) = grind arith in
    let stuck = goes_stuck (value c.args.depth) _ l.reader [] (l.invariant.same n h) going.0 in
    let none = λ (is : c.in_err-read_cut.field-0.0 ≡ Json). stuck
    (rw (← going.1) (ap (option_map (λ p. p.1)) (c.in_err-read_cut.ensures.json (ap Err is)))) in
    let fault =
    passes_refused (Option (Vec Value Global)) c.in_err-read_cut.field-0.0 c.read_cut.new.reader
    _
    c.in_err-read_cut.ensures.kind none in
    search (rules, fault)

pub returns-then-len-most-clause-passes : goal.returns-then-len-most-clause-passes
returns-then-len-most-clause-passes c n h =
    let l = c.elements in
    let going : (after_end_array l.reader ≡ None)
    × (c.take_end_array.new.self ≡ l.reader) = grind arith in
    let at = l.invariant.same n h in
    at.2 ∙ rw (← going.1) (c.in_ok-passes_at_most.ensures.passes at.0 (rw going.1 at.1))
