use Rattle.tracecheck.proofs.Common.{rules, IfSome, ◌++◌, ◌∙◌, List, ℕ, take, ap, sym, subst, arith}
use Rattle.tracecheck.proofs.Common.{append-nil, Consumes, Consumes-append, HasRead, Option}
use Rattle.tracecheck.proofs.Common.{IsAtEnd, Allocator, lines_of, MayEnd, Checking, End}
use Rattle.tracecheck.proofs.running.check.Goals as goal

-- the whole input was read
ended_at_end : (begin : Allocator) (old new : Option (List ℕ)) (text pending : List ℕ)
    (c : Checking) (end : End) → Consumes old new text → IsAtEnd new → HasRead begin text c pending
    → ((all : List ℕ) → HasRead begin all c pending → MayEnd begin (lines_of all) end)
    → IfSome old (λ all. MayEnd begin (lines_of all) end)
ended_at_end begin it new text pending c end taken last read ends = search (rules, append-nil)

-- what was read is enough
ended_early : (begin : Allocator) (old middle new : Option (List ℕ)) (text piece pending : List ℕ)
    (c : Checking) (end : End) → Consumes old middle text → Consumes middle new piece
    → HasRead begin text c pending
    → ((all more : List ℕ) → HasRead begin all c pending
    → MayEnd begin (lines_of (all ++ piece ++ more)) end)
    → IfSome old (λ all. MayEnd begin (lines_of all) end)
ended_early begin it middle new text piece pending c end taken next read ends =
    search (rules, Consumes-append)

pub returns-then-count-eq0-clause-ends : goal.returns-then-count-eq0-clause-ends
returns-then-count-eq0-clause-ends g c =
    let device = g.I.Source in
    let before = c.loop.invariant.read in
    let last = ap (λ n. before.0 ++ take n c.take.new.buffer) c.if-count-eq0.true
    ∙ append-nil before.0 in
    ended_at_end c.args.entities.allocator (device.remaining c.args.input.now)
    (device.remaining c.take.new.self)
    before.0 c.loop.pending.items c.loop.checking c.finish.result
    (subst
    (λ (bs : List ℕ). Consumes (device.remaining c.args.input.now)
    (device.remaining c.take.new.self) bs) last
    (Consumes-append _ _ _ _ _ before.1 c.in_ok-count.ensures.bytes)) (c.in_ok-count.ensures.end
    c.if-count-eq0.true
    (omega arith)) before.2 (λ all read. c.finish.ensures c.args.entities.allocator all
    (subst (HasRead c.args.entities.allocator all c.loop.checking) (sym c.deref.ensures.value)
    read))

pub returns-in-Err-clause-ends : goal.returns-in-Err-clause-ends
returns-in-Err-clause-ends g c =
    let before = c.loop.invariant.read in
    ended_early _ _ _ _ before.0 _ c.loop.pending.items c.loop.checking c.in-Err.end before.1
    c.in_ok-count.ensures.bytes before.2 (c.in-Err.ensures.ends c.args.entities.allocator)

pub loop-preserved : goal.loop-preserved
loop-preserved g c =
    let before = c.loop.invariant.read in
    record {
      read = (
        before.0 ++ take c.in_ok-count.count c.take.new.buffer,
        Consumes-append _ _ _ _ _ before.1 c.in_ok-count.ensures.bytes,
        c.in-Ok.ensures.taken c.args.entities.allocator before.0 before.2,
      );
      failures = c.in_ok-count.ensures.taken ∙ c.loop.invariant.failures;
      untold = λ off. c.tell-told.ensures.unwanted off ∙ c.loop.invariant.untold off;
    }
