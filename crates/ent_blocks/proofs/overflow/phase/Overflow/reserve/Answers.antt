use Rattle.ent_blocks.proofs.Common.{refl, rules}
use Rattle.ent_blocks.proofs.GoingPast.{here, used_on, gone_past, from_block, one_past}
use Rattle.ent_blocks.proofs.GoingPast.{one_of_block}
use Rattle.ent_blocks.proofs.overflow.phase.Overflow.reserve.Goals as goal

pub returns-then-left-eq0-clause-stays : goal.returns-then-left-eq0-clause-stays
returns-then-left-eq0-clause-stays c = search (rules, here, gone_past)

pub returns-then-left-eq0-clause-served : goal.returns-then-left-eq0-clause-served
returns-then-left-eq0-clause-served c =
    rw (← c.self.view_is, ← c.caller.view_is) (search (rules, one_past))

pub returns-clause-stays : goal.returns-clause-stays
returns-clause-stays c =
    let of = here c.args.self.now _ _ _ refl c.caller.view_is c.requires in
    search (rules, used_on)

pub returns-clause-served : goal.returns-clause-served
returns-clause-served c =
    rw (← c.self.view_is, ← c.caller.view_is) (search (rules, from_block, one_of_block))
