use Rattle.ent_alloc.proofs.Common.{rules, arith}
use Rattle.ent_alloc.proofs.FrontPools.{fresh_part}
use Rattle.ent_alloc.proofs.slots.Slots.append_fresh.Goals as goal

pub returns-clause-items : goal.returns-clause-items
returns-clause-items c = search (rules, fresh_part)
