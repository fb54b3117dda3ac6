use Rattle.ent_runner.proofs.Common.{rules}
use Rattle.ent_runner.proofs.Conducting.{room_of}
use Rattle.ent_runner.proofs.crew.Crew.new.Goals as goal

pub invariant_of-result-2 : goal.invariant_of-result-2
invariant_of-result-2 g c =
    let o = c.in_ok-claims.ensures in
    let r = c.in_ok-team.ensures in
    let v = c.in_ok-with_capacity.ensures in
    room_of c.in_ok-claims.claims _ c.args.jobs c.args.workers c.in_ok-team.team.items
    c.in_ok-claims.claimers.items
    c.recruit.new.claimers c.in_ok-without_outputs.field-0.items c.in_ok-with_capacity.field-0
    (search rules) o.numbers
    o.workers c.requires.some o.count o.own o.unused r.claimers r.fresh r.emptied (search rules)
    c.in_ok-without_outputs.ensures v.items (search rules)
