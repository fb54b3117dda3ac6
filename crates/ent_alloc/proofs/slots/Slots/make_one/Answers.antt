use Rattle.ent_alloc.proofs.Common.{rules, ◌-◌, arith}
use Rattle.ent_alloc.proofs.FreshHandles.{fresh-next, fresh-none}
use Rattle.ent_alloc.proofs.Linked.{make_keeps_links, roster_of-make}
use Rattle.ent_alloc.proofs.slots.Slots.make_one.Goals as goal

pub invariant_of-self-2 : goal.invariant_of-self-2
invariant_of-self-2 c = search (rules, make_keeps_links _ _ _ _ 1 c.self.invariant)

pub returns-clause-ok : goal.returns-clause-ok
returns-clause-ok c = search (
  rules,
  arith,
  roster_of-make _ _ _ _ 1 c.self.invariant,
  c.new.ensures,
  c.self.view_is,
  c.made.ensures.value,
  fresh-none,
  fresh-next c.args.self.now.made 0,
)
