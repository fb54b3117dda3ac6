use Rattle.ent_total.proofs.Common.{rules, ◌≡◌, [], IsOf, All-map}
use Rattle.ent_total.proofs.Unused.{none_issued, reservers-new}
use Rattle.ent_total.specs.Issuing.{Issuer, new_issuer}
use Rattle.ent_total.proofs.world_opening.opened.Goals as goal

pub returns-in-Ok-open-clause-reservers : goal.returns-in-Ok-open-clause-reservers
returns-in-Ok-open-clause-reservers c =
    search (rules, c.equip.ensures.callers, reservers-new, c.in-Ok-open.ensures.reservers)

pub returns-in-Ok-open-clause-own : goal.returns-in-Ok-open-clause-own
returns-in-Ok-open-clause-own c =
    let shared = c.in-Ok-open.world.shared in
    rw c.equip.ensures.callers
    (All-map (λ (i : Issuer). IsOf shared i.0) new_issuer _ c.in-Ok-open.ensures.own)

pub returns-in-Ok-open-clause-unused : goal.returns-in-Ok-open-clause-unused
returns-in-Ok-open-clause-unused c =
    rw c.equip.ensures.callers
    (All-map (λ (i : Issuer). i.0.own.entries ≡ []) new_issuer _
    c.in-Ok-open.ensures.unused)

pub returns-in-Ok-open-clause-no_command : goal.returns-in-Ok-open-clause-no_command
returns-in-Ok-open-clause-no_command c = rw c.equip.ensures.callers (none_issued _)
