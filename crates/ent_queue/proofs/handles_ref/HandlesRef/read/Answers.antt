use Rattle.std.proofs.Common.{rules}
use Rattle.ent_queue.proofs.Parts.{chunks_of_front}
use Rattle.ent_queue.proofs.handles_ref.HandlesRef.read.Goals as goal

pub invariant_of-result : goal.invariant_of-result
invariant_of-result c = search (rules, chunks_of_front)
