use Rattle.ent_queue.proofs.Common.{rules, arith, ◌-◌}
use Rattle.ent_queue.proofs.Queues.{first_of_commands, some_command_begins}
use Rattle.ent_queue.proofs.entries.EntriesIterator.next.Goals as goal

pub read_entry-entry-requires : goal.read_entry-entry-requires
read_entry-entry-requires c = (
  _,
  _,
  some_command_begins c.self.inside.left (c.self.inside.left - 1) _ (omega arith)
      c.self.invariant,
)

pub returns-clause-steps : goal.returns-clause-steps
returns-clause-steps c = search (rules, first_of_commands)

pub returns-clause-goes : goal.returns-clause-goes
returns-clause-goes c = search (rules, first_of_commands)
