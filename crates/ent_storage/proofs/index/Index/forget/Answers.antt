use Rattle.ent_storage.proofs.Common.{ap, ◌∙◌, total, same, Places, fin_get}
use Rattle.ent_storage.proofs.Keys.{get-insert_other}
use Rattle.ent_storage.proofs.Rising.{rising_set, map_set}
use Rattle.ent_storage.proofs.index.Index.forget.Goals as goal

pub invariant_of-self : goal.invariant_of-self
invariant_of-self c =
    let at = rw (← c.of.ensures, c.deref.ensures.value) at c.in-Some.ensures in
    rising_set total same _ c.self.invariant _ _ 4294967295 at

pub returns-in-Some-clause-kept : goal.returns-in-Some-clause-kept
returns-in-Some-clause-kept c q i n old =
    let at = rw (← c.of.ensures, c.deref.ensures.value) at c.in-Some.ensures in
    ap (λ m. fin_get m q) (map_set total same _ c.self.invariant _ _ 4294967295 at)
    ∙ get-insert_other total same _ _ 4294967295 q (λ is. n (is ∙ c.of.ensures))
    ∙ ap (λ (p : Places). fin_get p.by_handle q) c.self.view_is ∙ old
