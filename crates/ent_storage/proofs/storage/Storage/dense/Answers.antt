use Rattle.ent_storage.proofs.Common.{ap, sym, ◌∙◌, Store, value_at_place}
use Rattle.ent_storage.proofs.storage.Storage.dense.Goals as goal

pub returns-clause-has : goal.returns-clause-has
returns-clause-has c place value =
    let same = ap (λ (s : Store). value_at_place s place c.args.id) c.self.view_is in
    let has = c.dense.ensures.has place value in
    (λ at. sym same ∙ has.0 at, λ is. has.1 (same ∙ is))
