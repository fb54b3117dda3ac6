use Rattle.std.proofs.Common.{rules, ◌≡◌, [], ◌∷◌, ◌++◌, append-nil}
use Rattle.ent_shared.specs.Order.{handles_given}
use Rattle.ent_shared.proofs.Laws.{given-distinct}
use Rattle.cases_and_examples.proofs.examples.two_threads.end.Goals as goal

-- The workers have all that their reservers were given, one after the other, and no handle stands
-- there twice.
pub returns-clause-distinct : goal.returns-clause-distinct
returns-clause-distinct g c =
    let a = c.args.a in
    let b = c.args.b in
    let all : c.append.new.self.items
    ≡ handles_given a.reserver.own ++ (handles_given b.reserver.own ++ []) = search
    (rules, c.in_ok-append.ensures.items, a.complete, b.complete, append-nil) in
    rw all (given-distinct (a.reserver.own ∷ b.reserver.own ∷ [])
    (rw c.in_ok-both.ensures.items at c.close-entities.ensures.distinct))
