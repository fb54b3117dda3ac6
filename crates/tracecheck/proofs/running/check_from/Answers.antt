use Rattle.tracecheck.proofs.Common.{List, ℕ, Option, Some, None, inl, IfSome, Writes, Entities}
use Rattle.tracecheck.proofs.Common.{IsImageOf, HasSaidFrom, IsSaidOf, Status}
use Rattle.tracecheck.proofs.running.check_from.Goals as goal

said_from : (image input old new : Option (List ℕ)) (e : Entities) (ended : Status)
    (unread : Type 0) → IfSome image (λ bytes. IsImageOf bytes e)
    → Writes (IsSaidOf e.allocator ended) input old new
    → IfSome image (λ bytes. HasSaidFrom bytes ended unread input old new)
said_from None input old new e ended unread is written = tt
said_from (Some bytes) input old new e ended unread is written = inl (e, is, written)

pub returns-in-Ok-clause-said : goal.returns-in-Ok-clause-said
returns-in-Ok-clause-said g c =
    λ memory device. said_from _ _ _ _ c.in-Ok.entities c.check_trace.result _ c.in-Ok.ensures.found
    (c.check_trace.ensures.said memory device)
