use Rattle.ent_total.proofs.in_world.InWorldPhased.end_with_all.Goals as goal

pub invariant_of-result : goal.invariant_of-result
invariant_of-result g c =
    let start = g.met.S.Deals.start_is _ _ _ c.end_with_all.ensures in
    let rows = g.met.S.Deals.rows_are _ _ _ c.end_with_all.ensures in
    rw (start, rows) c.into_parts-source.ensures.parts
