use Rattle.ent_alloc.proofs.Common.{rules, ◌≡◌, ◌-◌, ℕ, ℤ, length, ap, subst, ◌∙◌, arith}
use Rattle.ent_alloc.proofs.Common.{common_steps, ints, top, asked_at, Allocator, IsSound}
use Rattle.ent_alloc.proofs.Settled.{length-all, settled-requests}
use Rattle.ent_alloc.proofs.Meaning.{allocator_is, asked_at-is, top_view}
use Rattle.ent_alloc.proofs.MeaningOfSteps.{settled_view, settled_reserved}
use Rattle.ent_alloc.proofs.entities.Entities.settle.Goals.{After-distance-2}
use Rattle.ent_alloc.proofs.entities.Entities.settle.Goals as goal

-- the top, by the vectors, and how much was asked for, and how much of it given
record AreAsked (top waiting : ℕ) (cursor floor : ℤ) (asked given : ℕ) : Type 0 where
  tops : top ≡ waiting
  asks_is : asked ≡ asked_at top cursor
  gives_is : given ≡ asked_at top floor

asked : (c : After-distance-2)
    → AreAsked (top c.args.self.now.allocator) (length c.self.inside.slots.pending) c.args.cursor
    c.args.floor c.distance.result c.distance-2.result
asked c =
    let tops = top_view _ _ _ _ c.self.invariant (allocator_is c.self.view_is) in
    search (rules, ints, tops)

pub distance-requires-2-clause-passed : goal.distance-requires-2-clause-passed
distance-requires-2-clause-passed c = grind (arith, common_steps)

pub invariant_of-self : goal.invariant_of-self
invariant_of-self c =
    let s = c.args.self.now.allocator in
    let view = allocator_is c.self.view_is in
    let both = asked (goal.at.invariant_of-self c).After-distance-2 in
    let gives = asked_at-is (top s) c.args.floor c.requires.greatest in
    let asks = asked_at-is (top s) c.args.cursor (omega (arith, ints)) in
    let room = ap (λ (s : Allocator). s.limits.slots - s.made) view in
    settled_reserved _ _ _ s c.self.invariant view c.requires.flushed c.distance.result
    c.distance-2.result
    (omega (arith, ints)) (omega (arith, ints)) (omega (arith, ints))
    (search (rules, c.requires.all_given, ints))

pub returns-clause-settled : goal.returns-clause-settled
returns-clause-settled c = search (rules, asked, settled_view, allocator_is)

pub returns-clause-requests : goal.returns-clause-requests
returns-clause-requests c =
    let s = c.args.self.now.allocator in
    let sound : IsSound s = subst IsSound (allocator_is c.self.view_is) c.self.invariant.sound in
    let gives = asked_at-is (top s) c.args.floor c.requires.greatest in
    let asks = asked_at-is (top s) c.args.cursor (omega (arith, ints)) in
    let long = length-all s sound c.requires.flushed in
    returns-clause-settled c ∙ settled-requests s sound c.requires.flushed _ _ (omega (arith, ints))
    (omega (arith, ints))
    (λ within. ap (asked_at (top s)) (c.requires.all_given (omega (arith, ints))))
