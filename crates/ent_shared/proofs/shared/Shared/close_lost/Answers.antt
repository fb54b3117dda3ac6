use Rattle.ent_shared.proofs.Common.{All, Contains, take, rules, arith, ◌≤ℤ◌, ap, ◌∙◌, to_z, of_z}
use Rattle.ent_shared.proofs.Common.{w64, common_steps, cursor, Record, own_reservations}
use Rattle.ent_shared.proofs.Common.{handles_of, live-after_flush, live-stays, taken-lives}
use Rattle.ent_shared.proofs.Common.{records_of}
use Rattle.ent_shared.proofs.Losing.{lost, Lost}
use Rattle.ent_shared.proofs.Sharing.{length-records_of, sum_by-records_of, all_owners}
use Rattle.ent_shared.proofs.shared.Shared.close_lost.Goals as goal
use Rattle.ent_shared.proofs.shared.Shared.close_lost.Goals.{After-max-end}

-- what is known before the allocator is settled
known : (c : After-max-end)
    → Lost c.self.inside.entities.allocator c.args.self.start c.args.self.count
    (records_of c.args.reservers.items) (to_z w64 (of_z w64 c.end_phase-cursor.result.0))
    (to_z w64 (of_z w64 c.max-end.result))
known c =
    lost _ _ _ _ _ _ _ _ _ _ c.self.invariant c.self.view_is c.end_phase-cursor.ensures.cursor
    c.room.ensures c.room.type_inv c.from-2.ensures c.max-end.ensures.value

pub settle-requires-clause-least : goal.settle-requires-clause-least
settle-requires-clause-least c =
    (known (goal.at.settle-requires-clause-least c).After-max-end).least

pub settle-requires-clause-greatest : goal.settle-requires-clause-greatest
settle-requires-clause-greatest c =
    (known (goal.at.settle-requires-clause-greatest c).After-max-end).greatest

pub settle-requires-clause-all_given : goal.settle-requires-clause-all_given
settle-requires-clause-all_given c = search (rules, known)

pub returns-clause-after : goal.returns-clause-after
returns-clause-after c =
    let l = known (goal.at.returns-clause-after c).After-max-end in
    search (rules, c.settle.ensures.settled ∙ l.after)

pub returns-clause-least : goal.returns-clause-least
returns-clause-least c =
    let l = known (goal.at.returns-clause-least c).After-max-end in
    let left = c.settle.ensures.settled ∙ l.after in
    search (rules, c.args.reservers.items, sum_by-records_of, left)

pub returns-clause-asked : goal.returns-clause-asked
returns-clause-asked c all_here =
    let l = known (goal.at.returns-clause-asked c).After-max-end in
    search (
      rules,
      c.args.reservers.items,
      sum_by-records_of,
      length-records_of,
      c.settle.ensures.settled ∙ l.after,
    )

pub returns-clause-most : goal.returns-clause-most
returns-clause-most c =
    let l = known (goal.at.returns-clause-most c).After-max-end in
    grind (
      arith,
      common_steps,
      c.settle.ensures.settled ∙ l.after,
      c.args.reservers.items,
      c.args.self.count,
    )

pub returns-clause-reached : goal.returns-clause-reached
returns-clause-reached c =
    let l = known (goal.at.returns-clause-reached c).After-max-end in
    search (
      rules,
      all_owners (λ (r : Record). cursor c.settle.new.self.allocator ≤ℤ r.mark),
      c.settle.ensures.settled ∙ l.after,
    )

pub returns-clause-whole : goal.returns-clause-whole
returns-clause-whole c all_here =
    let l = known (goal.at.returns-clause-whole c).After-max-end in
    ap cursor (c.settle.ensures.settled ∙ l.after)
    ∙ l.whole (length-records_of c.args.reservers.items ∙ all_here)

-- what the reservers were given is the front of the pool
pub returns-clause-given : goal.returns-clause-given
returns-clause-given c =
    let l = known (goal.at.returns-clause-given c).After-max-end in
    rw (c.settle.ensures.settled ∙ l.after) (all_owners (λ (o : Record). All
    (Contains (take l.asked c.args.self.start.pool)) (handles_of (own_reservations o.entries)))
    c.args.reservers.items
    l.given)

pub returns-clause-distinct : goal.returns-clause-distinct
returns-clause-distinct c = (known (goal.at.returns-clause-distinct c).After-max-end).distinct

pub returns-clause-not_live : goal.returns-clause-not_live
returns-clause-not_live c =
    let l = known (goal.at.returns-clause-not_live c).After-max-end in
    search (rules, c.settle.ensures.settled ∙ l.after, l.none_live)

pub returns-clause-brings_to_life : goal.returns-clause-brings_to_life
returns-clause-brings_to_life c h =
    search (rules, known, lost, live-after_flush, live-stays, taken-lives)
