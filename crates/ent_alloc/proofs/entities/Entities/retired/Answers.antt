use Rattle.ent_alloc.proofs.Common.{rules, ◌≡◌, ◌+◌, subst, top, retired, IsSound}
use Rattle.std.specs.FinSet as set
use Rattle.ent_alloc.proofs.Meaning.{allocator_is, top_view}
use Rattle.ent_alloc.proofs.Retired.{retired-rest}
use Rattle.ent_alloc.proofs.entities.Entities.retired.Goals.{After-waiting}
use Rattle.ent_alloc.proofs.entities.Entities.retired.Goals as goal

-- the slots, counted
counted : (c : After-waiting) → let s = c.args.self.now.allocator in
    (c.live.result ≡ set.len s.live)
    × (c.waiting.result ≡ top s) × (c.total.result ≡ s.made)
    × (retired s + (set.len s.live + top s) ≡ s.made)
counted c = search (rules, allocator_is, top_view, retired-rest)

pub overflow_sub-result : goal.overflow_sub-result
overflow_sub-result c =
    let all = retired-rest _ (subst IsSound (allocator_is c.self.view_is) c.self.invariant.sound) in
    search (rules, c.live.ensures, c.self.view_is, c.total.ensures)

pub overflow_sub-result-2 : goal.overflow_sub-result-2
overflow_sub-result-2 c = search (rules, counted)

pub returns-clause-value : goal.returns-clause-value
returns-clause-value c = search (rules, counted)

pub returns-clause-rest : goal.returns-clause-rest
returns-clause-rest c = search (rules, counted)
