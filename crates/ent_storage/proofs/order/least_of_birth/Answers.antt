use Rattle.ent_storage.proofs.Common.{common_steps, ◌≡◌, [], ◌∷◌, ◌++◌, map, take, sym, ◌∙◌, arith}
use Rattle.ent_storage.proofs.Common.{rules, eq_by_cmp, map_more, Birth, birth_cmp, Handle}
use Rattle.ent_storage.proofs.Common.{Resident}
use Rattle.ent_storage.proofs.OfBirth.{same_birth, other_birth, least_other, least_this}
use Rattle.ent_storage.proofs.order.least_of_birth.Goals as goal

abbrev pair_of : Resident → Birth × Handle
pair_of resident = (resident.birth, resident.handle)

pub loop-resident-preserved : goal.loop-resident-preserved
loop-resident-preserved c =
    let residents = c.args.residents.now in
    let i = c.loop-resident.resident-index in
    let resident = c.resident-item.result in
    let birth = c.args.birth in
    let before = map pair_of (take i residents) in
    let more = map_more pair_of _ _ _ (omega arith)
    ∙ (λ j. before ++ pair_of (sym c.resident-item.is j) ∷ []) in
    let tests : c.eq.result ≡ eq_by_cmp birth_cmp resident.birth c.args.birth = search rules in
    elim c.if-eq.branch [
      | goal.then-eq w ↦
          let same = same_birth resident.birth birth (sym tests ∙ w.if-eq.true) in
          grind (arith, common_steps, least_this, c.loop-resident.least, c.loop-resident.invariant)
      | goal.else-eq w ↦ rw (w.least-is, more)
          (least_other birth before c.loop-resident.least c.loop-resident.invariant
          (pair_of resident) (other_birth resident.birth birth (sym tests ∙ w.if-eq.false)))
    ]
