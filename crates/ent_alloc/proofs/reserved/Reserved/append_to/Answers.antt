use Rattle.ent_alloc.proofs.Common.{◌≡◌, ◌+◌, ◌-◌, rules, arith, append_assoc, append-nil, suc}
use Rattle.ent_alloc.proofs.FreshHandles.{fresh-next, fresh-none}
use Rattle.ent_alloc.proofs.reserved.Reserved.append_to.Goals as goal

pub loop-index-2-preserved : goal.loop-index-2-preserved
loop-index-2-preserved c =
    let index = c.loop-index-2.index in
    let left = c.self.inside.index_end - (index + 1) in
    let one : c.self.inside.index_end - index ≡ suc left = omega arith in
    search (rules, arith, one, c.first_occupant.ensures, fresh-next index left, append_assoc)

pub returns-clause-items : goal.returns-clause-items
returns-clause-items c = search (rules, arith, fresh-none, append-nil)
