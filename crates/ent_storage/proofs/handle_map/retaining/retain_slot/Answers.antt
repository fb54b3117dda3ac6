use Rattle.ent_storage.proofs.Common.{rules, sym, ◌∙◌}
use Rattle.ent_storage.proofs.Kept.{kept_slot, gone_slot}
use Rattle.ent_storage.proofs.handle_map.retaining.retain_slot.Goals as goal

pub returns-then-keep-clause-kept : goal.returns-then-keep-clause-kept
returns-then-keep-clause-kept g c =
    kept_slot (goal.F-step g) _ _ _ _ _ _ _ _ (sym c.handle.ensures ∙ c.in-Some.is)
    c.value_mut.ensures.value c.keep.ensures c.if-keep.true

pub returns-clause-kept : goal.returns-clause-kept
returns-clause-kept g c = search (rules, gone_slot (goal.F-step g))
