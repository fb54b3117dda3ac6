use Rattle.ent_queue.proofs.Common.{rules, Insert}
use Rattle.ent_queue.proofs.Queues.{pushed}
use Rattle.ent_queue.proofs.queue.CommandQueue.insert.Goals as goal

pub invariant_of-self-2 : goal.invariant_of-self-2
invariant_of-self-2 c =
    let p =
    pushed c.self.inside.count c.self.inside.bytes.items c.write_with_bundle.new.bytes.items
    (Insert
    c.args.handle c.args.items.now)
    c.self.invariant (search rules) (search rules) in
    search (rules, p)

pub returns-clause-ok : goal.returns-clause-ok
returns-clause-ok c =
    let p =
    pushed c.self.inside.count c.self.inside.bytes.items c.write_with_bundle.new.bytes.items
    (Insert
    c.args.handle c.args.items.now)
    c.self.invariant (search rules) (search rules) in
    search (rules, p)
