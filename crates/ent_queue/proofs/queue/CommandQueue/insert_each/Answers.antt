use Rattle.ent_queue.proofs.Common.{rules, length}
use Rattle.ent_queue.proofs.Queues.{inserts, PushedAll, inserted_each, each_fits}
use Rattle.ent_queue.proofs.queue.CommandQueue.insert_each.Goals.{After-write_each}
use Rattle.ent_queue.proofs.queue.CommandQueue.insert_each.Goals as goal

-- the bytes after the insertions
written : (c : After-write_each)
    → PushedAll c.self.inside.count (length c.args.handles.now) c.self.inside.bytes.items
    c.write_each.new.bytes.items
    (inserts c.args.items.now c.args.handles.now)
written c =
    inserted_each c.self.inside.count c.self.inside.bytes.items c.write_each.new.bytes.items
    c.args.items.now c.write_bundle.new.bytes.items c.args.handles.now c.self.invariant c.requires
    c.write_each.ensures.each (search rules) (search rules)

pub overflow_add-self : goal.overflow_add-self
overflow_add-self c =
    each_fits c.self.inside.count _ c.write_each.new.bytes
    (written (goal.at.overflow_add-self c).After-write_each).packed

pub invariant_of-self-2 : goal.invariant_of-self-2
invariant_of-self-2 c = (written (goal.at.invariant_of-self-2 c).After-write_each).packed

pub returns-clause-ok : goal.returns-clause-ok
returns-clause-ok c =
    let p = written (goal.at.returns-clause-ok c).After-write_each in search (rules, p)
