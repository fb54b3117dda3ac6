use Rattle.ent_storage.proofs.Common.{map, IfOk-weaker, IsInOrder, Birth, Handle, Resident}
use Rattle.ent_storage.proofs.RisingBirths.{listed}
use Rattle.ent_storage.proofs.order.handles_by_birth.Goals as goal

pub returns-then-are_rising-clause-ok : goal.returns-then-are_rising-clause-ok
returns-then-are_rising-clause-ok c =
    IfOk-weaker _ _
    (λ handles. IsInOrder (map {A = Resident} {B = Birth × Handle}
    (λ resident. (resident.birth, resident.handle)) c.args.residents.now) handles.items)
    (λ handles are. listed c.args.residents.now handles.items
    (c.are_rising.ensures c.if-are_rising.true) are)
    c.handles_of.ensures
