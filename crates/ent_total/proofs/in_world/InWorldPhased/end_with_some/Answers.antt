use Rattle.ent_total.proofs.in_world.InWorldPhased.end_with_some.Goals as goal

pub invariant_of-result : goal.invariant_of-result
invariant_of-result g c =
    let start = g.met.S.Deals.start_lost_is _ _ _ c.end_with_some.ensures in
    let rows = g.met.S.Deals.rows_lost_are _ _ _ c.end_with_some.ensures in
    rw (start, rows) c.into_parts-source.ensures.parts
