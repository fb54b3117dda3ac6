use Rattle.ent_storage.proofs.Common.{common_steps, ap, arith, handle_cmp, Entity, Store, counted}
use Rattle.ent_storage.proofs.Common.{fin_len, fin_len-empty}
use Rattle.ent_storage.proofs.Indexed.{len_living}
use Rattle.ent_storage.proofs.rows.Rows.is_empty.Goals as goal

-- an empty list stands for the empty map, and no other list does
pub returns : goal.returns
returns c =
    let counted = len_living _ _ c.self.invariant.indexed in
    let view = ap (λ (s : Store). fin_len s.entities) c.self.view_is in
    grind (
      arith,
      common_steps,
      c.self.inside.living.entities,
      c.is_empty.ensures,
      fin_len-empty handle_cmp Entity,
    )
