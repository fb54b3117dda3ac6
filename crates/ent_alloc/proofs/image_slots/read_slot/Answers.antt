use Rattle.ent_alloc.proofs.Common.{rules}
use Rattle.ent_alloc.proofs.ImageFaults.{living_bytes}
use Rattle.ent_alloc.proofs.image_slots.read_slot.Goals as goal

pub returns-then-kind_and_number-eq-LIVING-clause-bytes :
    goal.returns-then-kind_and_number-eq-LIVING-clause-bytes
returns-then-kind_and_number-eq-LIVING-clause-bytes c =
    living_bytes _ _ _ _ _ c.read_word-generation.ensures.bytes
    c.read_long-kind_and_number.ensures.bytes c.if-kind_and_number-eq-LIVING.true (search rules)
