use Rattle.ent_alloc.proofs.Common.{rules, Result, Ok, Err, OnErr, ◌-◌, length, ap, subst, ◌∙◌}
use Rattle.ent_alloc.proofs.Common.{length-take-le, after_flush, IsSound, Entities, HasRowsOfLiving}
use Rattle.ent_alloc.proofs.Soundness.{after_flush-sound}
use Rattle.ent_alloc.proofs.Meaning.{allocator_is, length-idle, closed, StandFor}
use Rattle.ent_alloc.proofs.MeaningOfSteps.{flushed_roster, made_at_flush_is, flush_is}
use Rattle.ent_alloc.proofs.Flushes.{rows-joined, born-no_row}
use Rattle.ent_alloc.proofs.entities.Entities.flush.Goals.{After-none-self-inside}
use Rattle.ent_alloc.proofs.entities.Entities.flush.Goals as goal

-- what is so anyhow is so after a refusal
anyhow : {T E : Type 0} (r : Result T E) (P : Type 0) → P → OnErr r P
anyhow (Ok x) P so = tt
anyhow (Err e) P so = so

-- the roster that a flush leaves stands for the flushed allocator
left : (c : After-none-self-inside) → StandFor c.bring_to_life.new.self c.none-self-inside.result
    (after_flush c.args.self.now.allocator)
left c =
    let r = c.self.inside.slots in
    let view = allocator_is c.self.view_is in
    let inv = c.self.invariant in
    let given = c.self.inside.requests.served in
    let is = flush_is r c.self.inside.requests.asked given inv.given_least inv.given_in inv.sound in
    closed c.bring_to_life.new.self
    (flushed_roster r (length r.pending - given) (given - length r.pending))
    c.none-self-inside.result (after_flush c.args.self.now.allocator) (search (rules))
    c.none-self-inside.ensures
    (is ∙ ap after_flush view) (search (rules, after_flush-sound, view))
    (search (rules, rows-joined))

pub returns-in_err-bring_to_life-clause-memory : goal.returns-in_err-bring_to_life-clause-memory
returns-in_err-bring_to_life-clause-memory c = search
    (rules, length-take-le, length-idle, allocator_is, made_at_flush_is, anyhow)

pub invariant_of-self-2 : goal.invariant_of-self-2
invariant_of-self-2 c = (left (goal.at.invariant_of-self-2 c).After-none-self-inside).reserved

pub returns-clause-ok : goal.returns-clause-ok
returns-clause-ok c = search (rules, left)

pub returns-clause-no_rows : goal.returns-clause-no_rows
returns-clause-no_rows c =
    let view = c.self.view_is in
    let none = born-no_row c.args.self.now (subst HasRowsOfLiving view c.self.invariant.rows)
    (subst (λ (e : Entities). IsSound e.allocator) view c.self.invariant.sound) in
    search (rules, none, c.in_ok-bring_to_life.ensures.ok, view)

pub returns-clause-rows_of_living : goal.returns-clause-rows_of_living
returns-clause-rows_of_living c = (invariant_of-self-2 c).rows
