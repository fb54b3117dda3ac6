use Rattle.ent_replay.proofs.Common.{rules, ◌≡◌, sym, ◌∙◌, arith, ints}
use Rattle.std.specs.FinMap as finite
use Rattle.ent_replay.proofs.MachineEvents.{done, faulty, some_of, none_of, stepped, awaited-bound}
use Rattle.ent_replay.proofs.MachineEvents.{step-stepped, step-taken, step-consistent}
use Rattle.ent_replay.proofs.machine.Machine.take.Goals as goal
use Rattle.ent_replay.proofs.machine.Machine.take.Goals.{After-replace}

pub returns-then-is_some : goal.returns-then-is_some
returns-then-is_some c = search (rules, some_of, faulty, step-stepped)

pub lower-span-requires : goal.lower-span-requires
lower-span-requires c =
    let e = c.self.inside in
    let waits = none_of c.in-Some.call.span c.if-is_some.ensures in
    let bound =
    awaited-bound e.entities.allocator e.spent e.calls c.args.caller (omega arith)
    c.self.invariant _
    (sym c.get.ensures ∙ c.in-Some.is) in
    search (rules, c.in-Some.call.requested, c.in-Some.call.span)

-- the call keeps what its step passed
replaced : (c : After-replace)
    → c.replace.new.self ≡ finite.insert c.self.inside.calls c.args.caller
    (stepped c.self.inside.entities.allocator c.in-Some.call)
replaced c = search rules

pub invariant_of-self : goal.invariant_of-self
invariant_of-self c = search (rules, none_of, replaced, step-consistent)

pub returns : goal.returns
returns c = search (rules, none_of, replaced, ints, done, step-taken)
