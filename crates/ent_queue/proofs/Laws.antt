-- The lemmas that close goals without an answer: the prover tries them together at each such goal
-- of this crate.
use Rattle.ent_queue.proofs.Common.{common_steps, Fits-of_lt, All-head, few_items}
use Rattle.ent_queue.proofs.Gaining.{queued_ok}
use Rattle.ent_queue.proofs.Parts.{chunks_of_front}
use Rattle.ent_queue.proofs.Queues.{count_fits, nothing_packed, no_commands, no_commands_iff}
use Rattle.ent_queue.proofs.Queues.{others_are_packed}

pub ruleset laws = (
  common_steps,
  All-head,
  Fits-of_lt,
  chunks_of_front,
  count_fits,
  few_items,
  no_commands,
  no_commands_iff,
  nothing_packed,
  others_are_packed,
  queued_ok,
)
