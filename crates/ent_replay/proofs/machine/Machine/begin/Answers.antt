use Rattle.ent_replay.proofs.Common.{get-insert, get-remove, nat_tests, rules, ◌≡◌, ◌+◌, sym, ap}
use Rattle.ent_replay.proofs.Common.{◌∙◌, None, arith, unwrap_or, quota}
use Rattle.ent_replay.proofs.Tables.{maps_alike}
use Rattle.std.specs.FinMap as finite
use Rattle.ent_replay.proofs.MachineEvents.{done, refused, none_of, on_ok, on_err, begin-quota}
use Rattle.ent_replay.proofs.MachineEvents.{begin-begun, begin-takes_memory, begin-consistent}
use Rattle.ent_replay.proofs.machine.Machine.begin.Goals as goal
use Rattle.ent_replay.proofs.machine.Machine.begin.Goals.{Else-is_some, After-unwrap_or-spent}
use Rattle.ent_replay.proofs.machine.Machine.begin.Goals.{After-remove, Else-is_err-2}

-- the caller has no open call
none : (c : Else-is_some) → finite.get c.self.inside.calls c.args.caller ≡ None
none c = sym c.get.ensures ∙ none_of c.get.result c.if-is_some.ensures

-- what it has requested
spent : (c : After-unwrap_or-spent) → c.unwrap_or-spent.result
    ≡ unwrap_or (finite.get c.self.inside.spent c.args.caller) 0
spent c = c.unwrap_or-spent.ensures ∙ ap (λ o. unwrap_or o 0) c.get-2.ensures

pub overflow_sub-left : goal.overflow_sub-left
unfolding quota
overflow_sub-left c = search (rules, spent)

pub returns-then-left-from : goal.returns-then-left-from
unfolding quota
returns-then-left-from c = search (rules, spent, done, begin-quota, none)

pub returns-then-is_err : goal.returns-then-is_err
unfolding quota
returns-then-is_err c = search (rules, spent, on_err, refused, begin-takes_memory, none)

-- its calls are as before
undone : (c : After-remove) → finite.get c.self.inside.calls c.args.caller ≡ None
    → c.remove.new.self ≡ c.self.inside.calls
undone c none = search (rules, on_ok, maps_alike, nat_tests, get-remove, get-insert, none)

pub invariant_of-self-then-is_err-2 : goal.invariant_of-self-then-is_err-2
invariant_of-self-then-is_err-2 c = search (rules, on_err, undone, none)

pub returns-then-is_err-2 : goal.returns-then-is_err-2
unfolding quota
returns-then-is_err-2 c = search (rules, none, spent, refused, on_err, undone, begin-takes_memory)

-- the call is among the caller's requests
more : (c : Else-is_err-2) → c.unwrap_or-spent.result
    ≡ unwrap_or (finite.get c.self.inside.spent c.args.caller) 0
    → c.insert-2.new.self ≡ finite.insert c.self.inside.spent c.args.caller
    (unwrap_or (finite.get c.self.inside.spent c.args.caller) 0 + c.args.n)
more c spent = search (rules, on_ok)

pub invariant_of-self-else-is_err-2 : goal.invariant_of-self-else-is_err-2
unfolding quota
invariant_of-self-else-is_err-2 c =
    let e = c.self.inside in
    let at = goal.at.invariant_of-self-else-is_err-2 c in
    let spent = spent at.After-unwrap_or-spent in
    let begun = on_ok c.insert.result c.if-is_err.ensures.value c.insert.ensures.ok in
    rw (more at.Else-is_err-2 spent, begun)
    (begin-consistent e.entities.allocator e.spent e.calls c.args.caller
    (omega arith) (none at.Else-is_some) c.args.n (omega arith) c.self.invariant (omega arith))

pub returns : goal.returns
unfolding quota
returns c = search (rules, spent, on_ok, done, more, begin-begun, none)
