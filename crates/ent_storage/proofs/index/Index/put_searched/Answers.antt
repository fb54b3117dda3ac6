use Rattle.ent_storage.proofs.Common.{rules, ◌∙◌}
use Rattle.ent_storage.proofs.Counted.{counted_still}
use Rattle.ent_storage.proofs.index.Index.put_searched.Goals as goal

-- what counted before the slots were filled up counts still
pub returns-then-lacks_slots_before-clause-kept : goal.returns-then-lacks_slots_before-clause-kept
returns-then-lacks_slots_before-clause-kept c _ q i n at =
    c.put_found.ensures.kept q i (λ is. n (is ∙ c.of.ensures))
    (counted_still _ _ _ c.fill_up.ensures.kept q i (search (rules, at, c.self.view_is)))
