use Rattle.ent_alloc.proofs.Common.{rules, ◌≡◌, ◌+◌, ◌-◌, ◌<◌, subst, sym, ap, refl, arith, length}
use Rattle.ent_alloc.proofs.Common.{Ok, ints, Allocator, after_take, cursor, top, IsSound}
use Rattle.ent_alloc.proofs.OneReply.{told_one, one_pending}
use Rattle.ent_alloc.proofs.Meaning.{allocator_is, top_view, StandFor}
use Rattle.ent_alloc.proofs.MeaningOfSteps.{served_view, served_reserved}
use Rattle.ent_alloc.proofs.entities.Entities.request_old.Goals.{In_ok-handle}
use Rattle.ent_alloc.proofs.entities.Entities.request_old.Goals as goal

-- the requests after this one are all served, and stand for the allocator after it
asks : (c : In_ok-handle) → StandFor c.self.inside.slots
    (record { asked = c.self.inside.requests.asked + 1; served = c.self.inside.requests.asked + 1 })
    (after_take c.args.self.now.allocator 1)
asks c =
    let ensures = c.in_ok-handle.ensures in
    let view = allocator_is c.self.view_is in
    search (
      rules,
      arith,
      ensures.enough,
      ensures.few,
      served_view _ _ _ 1 _ c.self.invariant view,
      served_reserved _ _ _ 1 _ c.self.invariant view,
    )

pub invariant_of-self : goal.invariant_of-self
invariant_of-self c = search (rules, asks)

pub returns-clause-step : goal.returns-clause-step
returns-clause-step c = search (rules, asks)

pub returns-clause-reply : goal.returns-clause-reply
returns-clause-reply c =
    let asks = asks (goal.at.returns-clause-reply c).In_ok-handle in
    let r = c.self.inside.slots in
    let s = c.args.self.now.allocator in
    let view = allocator_is c.self.view_is in
    let below : c.self.inside.requests.asked < length r.pending = c.in_ok-handle.ensures.enough in
    let tops : top s ≡ length r.pending = top_view r _ _ s c.self.invariant view in
    let asked = ap (λ (x : Allocator). x.asked) view in
    let waits =
    one_pending r _ _ (cursor s) (after_take s 1) asks.reserved asks.view c.in_ok-handle.handle
    (length r.pending - 1 - c.self.inside.requests.asked) (omega (arith, ints))
    (omega (arith, ints))
    c.in_ok-handle.ensures.some in
    sym
    (told_one s (after_take s 1) (cursor s) (subst IsSound view c.self.invariant.sound) refl
    refl
    (Ok c.in_ok-handle.handle) waits)
