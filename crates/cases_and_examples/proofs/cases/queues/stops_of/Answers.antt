use Rattle.std.proofs.Common.{◌≡◌, ◌∷◌, ◌∙◌, sym, ap, arith, drop}
use Rattle.ent_queue.specs.Entry.{command_of}
use Rattle.ent_queue.specs.declared.entry.Entry.{Entry}
use Rattle.ent_world.specs.Sync.{stops}
use Rattle.ent_world.proofs.Left.{some_stop}
use Rattle.cases_and_examples.proofs.cases.queues.stops_of.Goals as goal

pub returns-in-Some-SpawnMany : goal.returns-in-Some-SpawnMany
returns-in-Some-SpawnMany c =
    let here : c.args.command ≡ c.loop-number._number = omega
    (arith, c.loop-number-test.false, c.loop-number.auto._number-end) in
    let left = ap (λ n. drop n c.args.queue.now) here ∙ sym c.loop-number.invariant
    ∙ c.in-Some-SpawnMany.ensures.steps
    ∙ ap (λ (e : Entry). command_of e ∷ c.next-2.new.self) c.in-Some-SpawnMany.field-0-is in
    omega (arith, ap stops left, c.len.ensures)

pub returns-in-Some-next : goal.returns-in-Some-next
returns-in-Some-next c =
    let here : c.args.command ≡ c.loop-number._number = omega
    (arith, c.loop-number-test.false, c.loop-number.auto._number-end) in
    let left = ap (λ n. drop n c.args.queue.now) here ∙ sym c.loop-number.invariant
    ∙ c.in-Some-next.ensures.steps in
    omega (arith, ap stops left, some_stop (command_of c.in-Some-next.field-0) c.next-2.new.self)
