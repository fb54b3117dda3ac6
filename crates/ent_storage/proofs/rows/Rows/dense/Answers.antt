use Rattle.ent_storage.proofs.Common.{ap, sym, ◌∙◌, Store, value_at_place}
use Rattle.ent_storage.proofs.WithComponent.{same_value}
use Rattle.ent_storage.proofs.rows.Rows.dense.Goals as goal

pub returns-clause-has : goal.returns-clause-has
returns-clause-has c place value =
    let same = same_value _ _ c.self.invariant.indexed _ place
    ∙ ap (λ (s : Store). value_at_place s place c.args.id)
    c.self.view_is in (
      λ at. sym same ∙ c.pairs.ensures.has place value at,
      λ is. c.pairs.ensures.all place value (same ∙ is),
    )
