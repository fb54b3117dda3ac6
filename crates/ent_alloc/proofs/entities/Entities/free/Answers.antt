use Rattle.ent_alloc.proofs.Common.{arith, rules, ◌≡◌, ◌≢◌, true, common_steps, cases_eq}
use Rattle.ent_alloc.proofs.Common.{after_free, allocator_of, freed_roster, retired_roster}
use Rattle.std.specs.FinSet as sets
use Rattle.ent_alloc.proofs.Soundness.{after_free-sound}
use Rattle.ent_alloc.proofs.Meaning.{allocator_is, at_rest, closed, StandFor}
use Rattle.ent_alloc.proofs.Flushes.{rows-removed}
use Rattle.ent_alloc.proofs.entities.Entities.free.Goals.{In_ok-next}
use Rattle.ent_alloc.proofs.entities.Entities.free.Goals as goal

-- the slot of the last generation is retired, and any other one waits
retired_is : (c : In_ok-next) → c.args.handle.generation ≡ c.self.inside.slots.limits.generations
    → allocator_of (retired_roster c.self.inside.slots c.args.handle) 0 0
    ≡ after_free c.args.self.now.allocator c.args.handle
retired_is c last = grind (arith, common_steps)

freed_is : (c : In_ok-next) → c.args.handle.generation ≢ c.self.inside.slots.limits.generations
    → allocator_of (freed_roster c.self.inside.slots c.args.handle) 0 0
    ≡ after_free c.args.self.now.allocator c.args.handle
freed_is c before = grind (arith, common_steps, before)

-- the handle lived
lives : (c : In_ok-next) → sets.contains c.args.self.now.allocator.live c.args.handle ≡ true
lives c = grind (arith, common_steps)

-- the roster that this leaves stands for what is freed
left : (c : In_ok-next) → StandFor c.free.new.self c.self.inside.requests
    (after_free c.args.self.now.allocator c.args.handle)
left c =
    let rest = at_rest _ _ _ _ c.self.invariant (allocator_is c.self.view_is) c.needs_flush.ensures
    c.if-needs_flush.false in
    search (
      rules,
      cases_eq c.args.handle.generation c.self.inside.slots.limits.generations,
      closed,
      rest,
      c.in_ok-next.ensures.retired,
      c.in_ok-next.ensures.waits,
      retired_is c,
      freed_is c,
      after_free-sound,
      lives c,
      rows-removed,
    )

pub invariant_of-self-2 : goal.invariant_of-self-2
invariant_of-self-2 c = (left (goal.at.invariant_of-self-2 c).In_ok-next).reserved

pub returns : goal.returns
returns c = search (rules, left)
