use Rattle.ent_shared.proofs.Common.{rules, ◌≡◌, w64, to_z, of_z, [], ◌∷◌, arith, ap, ◌∙◌, ints}
use Rattle.ent_shared.proofs.Common.{Reserver}
use Rattle.ent_shared.proofs.Steps.{goes_by_records}
use Rattle.ent_shared.proofs.Sharing.{item_is, items_on, records_on, floor_on}
use Rattle.ent_shared.proofs.shared.end_phase.Goals as goal

pub new_holder-all-requires-clause-rule : goal.new_holder-all-requires-clause-rule
new_holder-all-requires-clause-rule c = goes_by_records _ _

pub merge-requires-clause-rule : goal.merge-requires-clause-rule
merge-requires-clause-rule c = goes_by_records _ _

pub merge-requires-clause-word : goal.merge-requires-clause-word
merge-requires-clause-word c =
    let own =
    item_is (λ (r : Reserver). r.word ≡ c.args.word.shared.table_id) _ _ _ _ _
    c.loop-reserver.invariant.all
    c.in-Some.ensures.steps.0 c.requires.own in
    search rules

pub loop-reserver-preserved : goal.loop-reserver-preserved
loop-reserver-preserved c =
    let i = c.loop-reserver.invariant in
    let view = c.reserver.invariant in
    let fits = c.min-floor.type_inv in
    let after : to_z w64 (of_z w64 c.min-floor.result) ≡ c.min-floor.result = omega (arith, ints) in
    let own : to_z w64 (of_z w64 c.reserver.inside.floor) ≡ c.reserver.inside.floor =
    omega (arith, ints) in
    record {
      all = items_on _ _ _ _ _ i.all c.in-Some.ensures.steps.0;
      seat = c.merge.ensures.kept ∙ i.seat;
      bare = c.merge.ensures.merges.0;
      records =
          records_on _ _ c.loop-reserver.yielded c.in-Some.reserver _ i.records
          (c.merge.ensures.merges.1 _ view.views_is)
          (ap (λ (r : Reserver). r.own ∷ []) c.reserver.view_is);
      floor =
          floor_on _ _ _ _ c.loop-reserver.yielded c.in-Some.reserver i.floor
          (after ∙ c.min-floor.ensures.value)
          (own ∙ (view.floor_is ∙ ap (λ (r : Reserver). r.own.floor) c.reserver.view_is));
    }
