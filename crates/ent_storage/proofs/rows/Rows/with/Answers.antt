use Rattle.ent_storage.proofs.Common.{IsSome, ap, Handle, Store, value_of}
use Rattle.ent_storage.proofs.Missing.{on_err}
use Rattle.ent_storage.proofs.WithComponent.{pair_inside, lists_with, as_many, some_with}
use Rattle.ent_storage.proofs.rows.Rows.with.Goals as goal

-- each pair has the place of an entity
pub births_at-requires : goal.births_at-requires
births_at-requires c k d l = pair_inside _ _ _ c.pairs.ensures.has k d l

-- the entities of the pairs are those that have the component
pub returns-clause-ok : goal.returns-clause-ok
returns-clause-ok c =
    let are = ap (λ (s : Store). s.entities) c.self.view_is in
    rw (← are)
    (lists_with _ _ c.self.invariant.indexed _ _ _ c.in_ok-births.ensures.ok c.pairs.ensures.has
    c.pairs.ensures.all c.pairs.ensures.once _ c.in_ok-handles_in_order.ensures.ok)

-- somebody has it if there is a pair
pub returns-in_err-births-clause-memory : goal.returns-in_err-births-clause-memory
returns-in_err-births-clause-memory c =
    let are = ap (λ (s : Store). s.entities) c.self.view_is in
    on_err {P = (h : Handle) × IsSome (value_of c.args.self.now.entities h c.args.id)} _
    (rw (← are)
    (some_with _ _ c.self.invariant.indexed _ _ c.pairs.ensures.has
    c.in_err-births.ensures.memory))

pub returns-in_err-handles_in_order-clause-memory :
    goal.returns-in_err-handles_in_order-clause-memory
returns-in_err-handles_in_order-clause-memory c =
    let are = ap (λ (s : Store). s.entities) c.self.view_is in
    let many = as_many _ _ _ c.in_ok-births.ensures.ok in
    on_err {P = (h : Handle) × IsSome (value_of c.args.self.now.entities h c.args.id)} _
    (rw (← are) (some_with _ _ c.self.invariant.indexed _ _ c.pairs.ensures.has
    (rw many at c.in_err-handles_in_order.ensures.memory)))
