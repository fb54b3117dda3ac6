use Rattle.ent_queue.proofs.Common.{rules, map, subst, All, All-head, All-tail, IsHandle}
use Rattle.ent_queue.proofs.Common.{unpacked_handle}
use Rattle.ent_queue.proofs.handles_ref.HandlesIterator.next.Goals as goal

pub handle_of-requires : goal.handle_of-requires
handle_of-requires c = search (rules, All-head)

pub invariant_of-left : goal.invariant_of-left
invariant_of-left c =
    All-tail IsHandle _ _
    (subst (λ bytes. All IsHandle (map unpacked_handle bytes)) c.in_ok-first.ensures.cases.0
    c.left.invariant)
