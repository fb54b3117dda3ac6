use Rattle.ent_alloc.proofs.Common.{rules, ◌-◌, arith}
use Rattle.ent_alloc.proofs.FrontPools.{waiting_part, waiting_long}
use Rattle.ent_alloc.proofs.slots.Slots.append_waiting.Goals as goal

pub returns-clause-items : goal.returns-clause-items
returns-clause-items c =
    let e = c.self.inside in
    let long =
    waiting_long e.limits e.records.items e.pending.items c.args.self.now c.self.view_is in
    search (
      rules,
      arith,
      long,
      waiting_part e.limits e.records.items e.pending.items c.args.self.now c.args.from c.args.count
          c.self.view_is,
    )
