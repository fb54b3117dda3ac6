use Rattle.ent_total.proofs.Common.{rules, arith, length, ap}
use Rattle.ent_total.proofs.Unused.{for_memory, is_opened, same_entities}
use Rattle.ent_total.proofs.in_blocks.share_in.Goals as goal

pub begin-requires-clause-room : goal.begin-requires-clause-room
begin-requires-clause-room g c =
    omega (arith, c.in-Ok-deal.ensures.many, c.in-Ok.ensures.capacity)

pub returns-in-Ok-begin-clause-dealt : goal.returns-in-Ok-begin-clause-dealt
returns-in-Ok-begin-clause-dealt g c = record {
  blocks = search rules;
  reservers_are = search rules;
  takes_all = search rules;
  unused = rw c.in-Ok-begin.ensures.opening c.in-Ok-deal.ensures.fresh;
}

-- the allocator was flushed, and so many blocks fit
pub returns-in-Ok-begin-clause-refused : goal.returns-in-Ok-begin-clause-refused
returns-in-Ok-begin-clause-refused g c =
    let fits : g.S.Deals.may_have (length c.args.sizes.now) = search rules in
    is_opened _ _ (λ some. absurd (search rules)) (λ no. no fits)

pub returns-in-Err-clause-refused : goal.returns-in-Err-clause-refused
returns-in-Err-clause-refused g c =
    let fits : g.S.Deals.may_have (length c.args.sizes.now) = search rules in
    for_memory _ _ (λ some. absurd (search rules)) (λ no. no fits) _
    (ap (λ h. h.error) c.new-in-Err.ensures)

pub returns-in-Err-begin-clause-refused : goal.returns-in-Err-begin-clause-refused
returns-in-Err-begin-clause-refused g c =
    let fits : g.S.Deals.may_have (length c.args.sizes.now) = search rules in
    for_memory _ _ (λ some. absurd (search rules)) (λ no. no fits) _
    (ap (λ h. h.error) c.new-in-Err-begin.ensures)

pub returns-in-Err-begin-clause-handed_back : goal.returns-in-Err-begin-clause-handed_back
returns-in-Err-begin-clause-handed_back g c =
    let start = g.met.S.Deals.start_is _ _ _ c.end_with_all.ensures in
    let rows = g.met.S.Deals.rows_are _ _ _ c.end_with_all.ensures in
    search (rules, same_entities, start, rows)
