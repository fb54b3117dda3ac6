use Rattle.ent_alloc.proofs.Common.{rules, ◌≡◌, ◌+◌, subst, sym, arith, length, inl, inr, ℕ, ◌-◌}
use Rattle.ent_alloc.proofs.Common.{ints, cases_lt, Requests, Roster, Allocator, AreReserved}
use Rattle.ent_alloc.proofs.Common.{IsSpanOf, IsSound, pos, ◌^◌, ◌<◌, ◌≤◌, ◌-ℤ◌, cursor, after_take}
use Rattle.ent_alloc.proofs.PoolLaw.{top-after_take}
use Rattle.ent_alloc.proofs.Meaning.{allocator_is, length_available}
use Rattle.ent_alloc.proofs.MeaningOfSteps.{served_view, served_reserved, refused_view}
use Rattle.ent_alloc.proofs.MeaningOfSteps.{refused_reserved}
use Rattle.ent_alloc.proofs.entities.Entities.lower.Goals.{After-available-available}
use Rattle.ent_alloc.proofs.entities.Entities.lower.Goals as goal

-- how many were asked for, and how many there are to give, by the vectors
record IsCounted (r : Roster) (asked : ℕ) (s : Allocator) (available : ℕ) : Type 0 where
  asks : asked ≡ s.asked
  gives : available ≡ length r.pending + (r.limits.slots - r.made)

many : (c : After-available-available) → IsCounted c.self.inside.slots c.self.inside.requests.asked
    c.args.self.now.allocator c.available-available.result
many c = search (rules, allocator_is, length_available)

pub invariant_of-self : goal.invariant_of-self
invariant_of-self c =
    let e = c.self.inside in
    let r = e.slots in
    let n = c.args.n in
    let s = c.args.self.now.allocator in
    let view = allocator_is c.self.view_is in
    let inv = c.self.invariant in
    let all = many (goal.at.invariant_of-self c).After-available-available in
    let keeps : Requests → Type 0 = λ q. AreReserved r q.asked q.served in
    elim (cases_lt c.available-available.result (e.requests.asked + n)) [
      | inl short ↦ search (rules, c.and-self-inside.ensures.refused, refused_reserved)
      | inr enough ↦ subst keeps (sym (c.and-self-inside.ensures.served enough))
          (served_reserved _ _ _ n s inv view (omega arith) (omega arith))
    ]

pub returns-clause-step : goal.returns-clause-step
returns-clause-step c = search (rules, allocator_is, many, cases_lt, refused_view, served_view)

-- the span of a request is one that the allocator can reply to
requested : (s : Allocator) (n : ℕ) → IsSound s → s.asked ≤ 2 ^ 50 → n < 2 ^ 32
    → IsSpanOf (after_take s n) (record { high = cursor s; low = cursor s -ℤ pos n })
requested s n sound few small = search (rules, top-after_take, ints)

pub returns-clause-valid : goal.returns-clause-valid
returns-clause-valid c =
    let view = allocator_is c.self.view_is in
    search (rules, ints, requested, subst IsSound view c.self.invariant.sound, returns-clause-step)
