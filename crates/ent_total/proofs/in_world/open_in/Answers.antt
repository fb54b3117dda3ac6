use Rattle.ent_total.proofs.Common.{rules, arith, ap}
use Rattle.ent_total.proofs.Unused.{for_memory, is_opened, same_world}
use Rattle.ent_total.proofs.in_world.open_in.Goals as goal

pub begin-requires-clause-room : goal.begin-requires-clause-room
begin-requires-clause-room g c =
    omega (arith, c.in-Ok-deal_blocks.ensures.many, c.in-Ok.ensures.capacity)

pub end_with_all-requires-clause-own : goal.end_with_all-requires-clause-own
end_with_all-requires-clause-own g c =
    rw (c.in-Err-begin.ensures.err.0, c.in-Err-begin.ensures.err.1) c.in-Ok-deal_blocks.ensures.own

pub returns-in-Ok-begin-clause-dealt : goal.returns-in-Ok-begin-clause-dealt
returns-in-Ok-begin-clause-dealt g c = record {
  blocks = search rules;
  reservers_are = search rules;
  takes_all = search rules;
  unused = rw c.in-Ok-begin.ensures.opening c.in-Ok-deal_blocks.ensures.fresh;
}

-- the world was flushed, and so many blocks fit
pub returns-in-Ok-begin-clause-refused : goal.returns-in-Ok-begin-clause-refused
returns-in-Ok-begin-clause-refused g c =
    is_opened _ _
    (λ some. let yes = c.needs_flush.ensures.1 some in
    let no = c.if-needs_flush.false in absurd (cc))
    (λ no. no (c.fits.ensures.0 c.if-not-fits.false))

pub returns-in-Err-clause-refused : goal.returns-in-Err-clause-refused
returns-in-Err-clause-refused g c =
    for_memory _ _
    (λ some. let yes = c.needs_flush.ensures.1 some in
    let no = c.if-needs_flush.false in absurd (cc))
    (λ no. no (c.fits.ensures.0 c.if-not-fits.false)) _ (ap (λ h. h.error) c.new-in-Err.ensures)

pub returns-in-Err-begin-clause-refused : goal.returns-in-Err-begin-clause-refused
returns-in-Err-begin-clause-refused g c =
    for_memory _ _
    (λ some. let yes = c.needs_flush.ensures.1 some in
    let no = c.if-needs_flush.false in absurd (cc))
    (λ no. no (c.fits.ensures.0 c.if-not-fits.false)) _
    (ap (λ h. h.error) c.new-in-Err-begin.ensures)

pub returns-in-Err-begin-clause-handed_back : goal.returns-in-Err-begin-clause-handed_back
returns-in-Err-begin-clause-handed_back g c =
    let e = c.end_with_all.ensures in
    let start = g.met.S.Deals.start_is _ _ _ e.closes in
    search (rules, same_world, start)
