use Rattle.ent_queue.proofs.Common.{refl}
use Rattle.ent_queue.proofs.Queues.{no_commands}
use Rattle.ent_queue.proofs.queue.CommandQueue.new.Goals as goal

pub returns : goal.returns
returns c = no_commands 0 c.new.result.items refl
