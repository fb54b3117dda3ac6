use Rattle.ent_alloc.proofs.Common.{rules, ◌-◌, ap, arith, Roster}
use Rattle.ent_alloc.proofs.Waits.{waiting_keeps_links, roster_of-waiting}
use Rattle.ent_alloc.proofs.slots.Slots.make_waiting.Goals as goal

pub invariant_of-self-2 : goal.invariant_of-self-2
invariant_of-self-2 c =
    let room = ap (λ (r : Roster). r.limits.slots - r.made) c.self.view_is in
    search (rules, waiting_keeps_links _ _ _ _ c.args.count c.self.invariant (omega arith))

pub returns-clause-ok : goal.returns-clause-ok
returns-clause-ok c =
    let room = ap (λ (r : Roster). r.limits.slots - r.made) c.self.view_is in
    search (
      rules,
      roster_of-waiting _ _ _ _ c.args.count c.self.invariant (omega arith),
      c.self.view_is,
    )
