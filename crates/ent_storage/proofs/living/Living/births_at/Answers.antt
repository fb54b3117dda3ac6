use Rattle.ent_storage.proofs.Common.{ℕ, ℤ, get_or, Some, ap, sym, ◌∙◌, arith, pos, Option, Birth}
use Rattle.ent_storage.proofs.Common.{Handle, Resident, Living, born_at, option_map}
use Rattle.ent_storage.proofs.Common.{slice_get-get_or, map_more, map_push}
use Rattle.ent_storage.proofs.EntitiesOfResidents.{inside_from, born_get}
use Rattle.ent_storage.proofs.living.Living.births_at.Goals as goal

pub index-resident-requires : goal.index-resident-requires
index-resident-requires c =
    let inside =
    inside_from _ _ _ _ _ c.self.view_is
    (c.requires c.loop-pair.pair-index (0, pos 0) (omega arith)) in
    omega arith

pub loop-pair-preserved : goal.loop-pair-preserved
loop-pair-preserved c =
    let residents = c.self.inside.residents.items in
    let pairs = c.args.pairs.now in
    let i = c.loop-pair.pair-index in
    let p = (get_or pairs i (0, pos 0)).0 in
    let resident = c.index-resident.result.now in
    let born : Birth × Handle = (resident.birth, resident.handle) in
    let inside =
    inside_from residents c.self.inside.columns.items _ c.args.self.now p c.self.view_is
    (c.requires i (0, pos 0) (omega arith)) in
    let at = slice_get-get_or residents p resident inside
    ∙ ap Some (sym c.index-resident.ensures) in
    let here = ap (λ (l : Living). born_at l.entities p) (sym c.self.view_is)
    ∙ born_get residents c.self.inside.columns.items 0 p ∙ ap
    (option_map {U = Birth × Handle} (λ (r : Resident). (r.birth, r.handle))) at in
    let more =
    map_more (λ (pair : ℕ × ℤ). born_at c.args.self.now.entities pair.0) pairs i (0, pos 0)
    (omega arith) in
    let push =
    map_push {X = Birth × Handle} {Y = Option (Birth × Handle)} Some c.loop-pair.births.items
    born in
    rw (c.in_ok-push.ensures.items, push, c.loop-pair.invariant, sym here) (sym more)
