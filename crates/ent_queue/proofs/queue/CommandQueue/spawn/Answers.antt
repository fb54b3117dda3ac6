use Rattle.ent_queue.proofs.Common.{rules, Spawn, Refused}
use Rattle.ent_queue.proofs.Queues.{pushed}
use Rattle.ent_queue.proofs.Gaining.{is_refusal, refused_by_fault}
use Rattle.ent_queue.proofs.queue.CommandQueue.spawn.Goals as goal

pub invariant_of-self-in-Ok : goal.invariant_of-self-in-Ok
invariant_of-self-in-Ok g c =
    let p =
    pushed c.self.inside.count c.self.inside.bytes.items c.write_with_bundle.new.bytes.items
    (Spawn
    c.in-Ok.handle c.args.items.now)
    c.self.invariant (search rules) (search rules) in
    search (rules, p)

pub returns-in-Ok-clause-ok : goal.returns-in-Ok-clause-ok
returns-in-Ok-clause-ok g c =
    let p =
    pushed c.self.inside.count c.self.inside.bytes.items c.write_with_bundle.new.bytes.items
    (Spawn
    c.in-Ok.handle c.args.items.now)
    c.self.invariant (search rules) (search rules) in
    search (rules, p)

pub invariant_of-self-in-Err : goal.invariant_of-self-in-Err
invariant_of-self-in-Err g c =
    let p =
    pushed c.self.inside.count c.self.inside.bytes.items c.write_refused.new.bytes.items
    (Refused 1 c.in-Err.why)
    c.self.invariant (search (rules, is_refusal)) (search (rules, is_refusal)) in
    search (rules, p)

pub returns-in-Err-clause-refused : goal.returns-in-Err-clause-refused
returns-in-Err-clause-refused g c =
    let p =
    pushed c.self.inside.count c.self.inside.bytes.items c.write_refused.new.bytes.items
    (Refused 1 c.in-Err.why)
    c.self.invariant (search (rules, is_refusal)) (search (rules, is_refusal)) in
    search (rules, p, refused_by_fault)
